-- The words of the theorem on the ring: a walk along right links, and what it means that a walk
-- goes once round the members. A node is a number; `key` gives its key and `right` its right link.
-- Definitions only.
use Rattle.std.specs.Prelude.{◌≡◌, List, [], ◌∷◌, ℕ, zero, suc, eqb, leb, Some, None}
use Rattle.predicates.specs.Tests.{count}
use Rattle.parts.specs.Tests.{Link}

-- ---- the walk
-- R10.5: where a link of s leads; s itself where there is none
abbrev pub end_of : Link → ℕ → ℕ
end_of None s = s
end_of (Some t) s = t

-- R10.5: where one move from s leads, along its right link
abbrev pub move : (ℕ → Link) → ℕ → ℕ
move right s = end_of (right s) s

-- R10.5: where k moves from s lead
abbrev pub after : (ℕ → Link) → ℕ → ℕ → ℕ
after right s zero = s
after right s (suc k) = after right (move right s) k

-- R10.5: the first k nodes of the walk from s: s, then where 1, 2, .. moves lead
abbrev pub walk : (ℕ → Link) → ℕ → ℕ → List ℕ
walk right s zero = []
walk right s (suc k) = s ∷ walk right (move right s) k

-- ---- counting
-- R10.5: how often m stands in l
abbrev pub times : ℕ → List ℕ → ℕ
times m l = count (λ x. eqb m x) l

-- R10.6: how many of l have a move that does not lead to a higher key
abbrev pub falls : (ℕ → ℕ) → (ℕ → Link) → List ℕ → ℕ
falls key right l = count (λ x. leb (key (move right x)) (key x)) l

-- ---- the ring
-- R10.5, R10.6: the walk from s goes once round the members, ascending but for one move
pub record Circuit (key : ℕ → ℕ) (right : ℕ → Link) (Member : ℕ → Type 0) (s : ℕ) : Type 0 where
  -- how many moves the round takes
  pub moves : ℕ
  -- each member has a right link
  pub linked : (m : ℕ) → Member m → right m ≡ Some (move right m)
  -- the round meets each member once
  pub each_once : (m : ℕ) → Member m → times m (walk right s moves) ≡ 1
  -- it meets nothing else
  pub no_other : (m : ℕ) → ¬ Member m → times m (walk right s moves) ≡ 0
  -- it ends where it began
  pub home : after right s moves ≡ s
  -- just one of its moves does not lead to a higher key
  pub falls_once : falls key right (walk right s moves) ≡ 1
  -- a member alone has a right link to itself
  pub lone : ((m : ℕ) → Member m → m ≡ s) → right s ≡ Some s

-- R10.7: the one member whose right link leads to q
pub record Predecessor (right : ℕ → Link) (Member : ℕ → Type 0) (q : ℕ) : Type 0 where
  pub node : ℕ
  pub member : Member node
  pub links : right node ≡ Some q
  pub only : (m : ℕ) → Member m → right m ≡ Some q → m ≡ node
