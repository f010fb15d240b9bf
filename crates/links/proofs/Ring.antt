-- The words of the proofs about rings: `With` and `Without` say that a ring has one member more, or
-- one less. What a ring is, and who is one of a list, comes along under the names used here.
-- Definitions only.
use mathlib.Core.Path.{◌≡◌}
use mathlib.Core.Logic.{◌⊎◌, ◌↔◌, ◌≢◌}
use mathlib.Core.List.{List}
pub use mathlib.Core.List.Memᴰ.{cases_cons as in-cons}
pub use mathlib.Core.List.Memᴰ.{head as here}
pub use mathlib.Core.List.Memᴰ.{tail as there}
pub use mathlib.Core.List.Memᴰ.{append_cases as in-part}
pub use mathlib.Core.List.Memᴰ.{eq_of_singleton as in_one}
pub use mathlib.Core.List.Memᴰ.{not-nil as in-nil}
pub use mathlib.Core.List.Memᴰ.{append_left as in_left}
pub use mathlib.Core.List.Memᴰ.{append_right as in_right}
use Prim.Native.Nat.{ℕ}
use Rattle.predicates.proofs.TestLaws.{◌∈◌}
use Rattle.parts.specs.Tests.{Link}
pub use Rattle.links.specs.Ring.{Ascending, first, Trail, Links, Ring}

-- a ring of L and u
pub record With (key : ℕ → ℕ) (right : ℕ → Link) (L : List ℕ) (u : ℕ) : Type 0 where
  pub order : List ℕ
  pub ring : Ring key right order
  pub members : (m : ℕ) → (m ∈ order) ↔ ((m ∈ L) ⊎ (m ≡ u))

-- a ring of L but u
pub record Without (key : ℕ → ℕ) (right : ℕ → Link) (L : List ℕ) (u : ℕ) : Type 0 where
  pub order : List ℕ
  pub ring : Ring key right order
  pub members : (m : ℕ) → (m ∈ order) ↔ ((m ∈ L) × (m ≢ u))
