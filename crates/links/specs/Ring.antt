-- R10.3, R10.12, a ring written down as a list: its members in the order of their keys, each with a
-- right link to the next and the last with one to the first; and that list with a member more, or
-- one less. A node is a number; `key` gives its key and `right` its right link. Definitions only.
use Rattle.std.specs.Prelude.{◌≡◌, cond, ℕ, ◌<◌, eqb, ltb, Some}
use mathlib.Core.List.{List, [], ◌∷◌, Memᴰ}
use Rattle.parts.specs.Tests.{Link}

-- R10.3: each of L has a lower key than all that follow it
abbrev pub Ascending : (ℕ → ℕ) → List ℕ → Type 0
Ascending key [] = Unit {0}
Ascending key (a ∷ l) = ((b : ℕ) → Memᴰ b l → key a < key b) × Ascending key l

-- R10.3: the first of l, or z where l is empty
abbrev pub first : List ℕ → ℕ → ℕ
first [] z = z
first (a ∷ l) z = a

-- R10.3: each of l has a right link to the next of l, and the last of l has one to z
abbrev pub Trail : (ℕ → Link) → List ℕ → ℕ → Type 0
Trail right [] z = Unit {0}
Trail right (a ∷ l) z = (right a ≡ Some (first l z)) × Trail right l z

-- R10.3: each of L has a right link to the next of L, and the last of L has one to the first
abbrev pub Links : (ℕ → Link) → List ℕ → Type 0
Links right L = Trail right L (first L 0)

-- R10.3, R10.12: L is a ring
pub record Ring (key : ℕ → ℕ) (right : ℕ → Link) (L : List ℕ) : Type 0 where
  pub ascending : Ascending key L
  pub links : Links right L

-- ---- a member more, and one less
-- R10.3, admitted: l with v before the first that has a higher key
abbrev pub with_member : (ℕ → ℕ) → ℕ → List ℕ → List ℕ
with_member key v [] = v ∷ []
with_member key v (a ∷ l) = cond (ltb (key v) (key a)) (v ∷ a ∷ l) (a ∷ with_member key v l)

-- R10.3, released: all of l but v
abbrev pub without_member : ℕ → List ℕ → List ℕ
without_member v [] = []
without_member v (a ∷ l) = cond (eqb a v) (without_member v l) (a ∷ without_member v l)
