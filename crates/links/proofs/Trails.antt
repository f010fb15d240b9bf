-- Trails of right links: a trail in two parts, a closed trail read from another of its nodes on, a
-- trail whose nodes keep their links, and the walk along a trail. By induction on the list. Assumes
-- nothing.
use Rattle.std.specs.Prelude.{Some}
use mathlib.Core.Path.{◌≡◌, refl, ap, ◌∙◌}
use mathlib.Core.List.{List, [], ◌∷◌, ◌++◌, append-nil}
use Prim.Native.Nat.{ℕ}
use lib.ListN.{length}
use Rattle.parts.specs.Tests.{Link}
use Rattle.predicates.proofs.TestLaws.{◌∈◌}
use Rattle.links.specs.Walk.{end_of, move, after, walk}
use Rattle.links.proofs.Ring.{here, there, first, Trail, Links}

pub first_append : (l m : List ℕ) (z : ℕ) → first (l ++ m) z ≡ first l (first m z)
first_append [] m z = refl
first_append (a ∷ l) m z = refl

-- a link leads to one place
pub same_end : {k : Link} {a b : ℕ} → k ≡ Some a → k ≡ Some b → a ≡ b
same_end h i = cc

module _ (right : ℕ → Link) where
  -- ---- a trail in two parts
  trail-left : (l m : List ℕ) (z : ℕ) → Trail right (l ++ m) z → Trail right l (first m z)
  trail-left [] m z h = tt
  trail-left (a ∷ l) m z h = (rw (first_append l m z) at h.0, trail-left l m z h.1)

  trail-right : (l m : List ℕ) (z : ℕ) → Trail right (l ++ m) z → Trail right m z
  trail-right [] m z h = h
  trail-right (a ∷ l) m z h = trail-right l m z h.1

  trail-join : (l m : List ℕ) (z : ℕ) → Trail right l (first m z) → Trail right m z → Trail right (l ++ m) z
  trail-join [] m z h k = k
  trail-join (a ∷ l) m z h k = (rw (first_append l m z) h.0, trail-join l m z h.1 k)

  -- a closed trail, its parts swapped
  pub rotate : (l m : List ℕ) → Links right (l ++ m) → Links right (m ++ l)
  rotate [] m h = rw (append-nil m) h
  rotate (a ∷ l) [] h = rw (append-nil l) at h
  rotate (a ∷ l) (b ∷ m) h = trail-join (b ∷ m) (a ∷ l) b (trail-right (a ∷ l) (b ∷ m) a h) (trail-left (a ∷ l) (b ∷ m) a h)

  -- ---- the walk along a trail
  pub move-to : {a b : ℕ} → right a ≡ Some b → move right a ≡ b
  move-to {a} h = ap (λ x. end_of x a) h

  pub walk-along : (l : List ℕ) (z : ℕ) → Trail right l z → walk right (first l z) (length l) ≡ l
  walk-along [] z h = refl
  walk-along (a ∷ l) z h = rw (move-to h.0) (ap (λ m. a ∷ m) (walk-along l z h.1))

  pub after-trail : (l : List ℕ) (z : ℕ) → Trail right l z → after right (first l z) (length l) ≡ z
  after-trail [] z h = refl
  after-trail (a ∷ l) z h = ap (λ x. after right x (length l)) (move-to h.0) ∙ after-trail l z h.1

-- ---- a trail whose nodes keep their links
pub trail-kept : (right right' : ℕ → Link) (l : List ℕ) (z : ℕ) → ((m : ℕ) → m ∈ l → right' m ≡ right m) → Trail right l z
    → Trail right' l z
trail-kept right right' [] z same h = tt
trail-kept right right' (a ∷ l) z same h = (same a (here refl) ∙ h.0, trail-kept right right' l z (λ m i. same m (there i)) h.1)
