-- What stands in the places of a list, and what a test of every place says of the list. Assumes
-- nothing.
use mathlib.Core.Path.{◌≡◌, refl, ap, ◌∙◌}
use mathlib.Core.Bool.{Bool}
use mathlib.Core.List.{List, [], ◌∷◌}
use Prim.Native.Nat.{ℕ, zero, suc, ◌≤◌, ◌<◌}
use native.Mathlib.Omega.{arith}
use lib.ListN.{length, get_or, take}
use lib.Seq.{take-length}
use Rattle.predicates.specs.Tests.{every, every_below}
use Rattle.predicates.proofs.TestLaws.{every_take}

-- within the list, what stands for the elements past its end does not matter
pub same-element : {A : Type 0} (l : List A) (i : ℕ) (a b : A) → i < length l → get_or l i a ≡ get_or l i b
same-element [] i a b k = absurd (omega arith)
same-element (x ∷ l) zero a b k = refl
same-element (x ∷ l) (suc i) a b k = same-element l i a b (omega arith)

-- the first elements, tested by their places
pub every-below : {A : Type 0} (test : A → Bool) (d : A) (l : List A) (n : ℕ) → n ≤ length l → every_below n (λ i. test (get_or l i d)) ≡ every test (take n l)
every-below test d l zero k = refl
every-below test d l (suc n) k = rw (every-below test d l n (omega arith), every_take test l n d k)

-- and all of them
pub every_element : {A : Type 0} (test : A → Bool) (d : A) (l : List A) → every_below (length l) (λ i. test (get_or l i d)) ≡ every test l
every_element test d l = every-below test d l (length l) (omega arith) ∙ ap (every test) (take-length l)
