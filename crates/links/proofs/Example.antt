-- Three nodes with the keys 5, 9 and 7, linked as a ring: the words of `Walk` computed on them,
-- then the circuit, a predecessor, a member more and a member less, so that no hypothesis of the
-- theorems is void. Assumes nothing.
use Rattle.std.specs.Prelude.{Some, None}
use mathlib.Core.Path.{◌≡◌, refl, sym}
use mathlib.Core.Logic.{⊎_elim, ◌≢◌}
use mathlib.Core.List.{[], ◌∷◌}
use Prim.Native.Nat.{ℕ, zero, suc, ◌<◌}
use lib.ListN.{get_or}
use lib.Dec.{lit<}
use native.Mathlib.Omega.{arith}
use Rattle.interval.proofs.Laws.{inside}
use Rattle.parts.specs.Tests.{Link}
use Rattle.predicates.proofs.TestLaws.{◌∈◌}
use Rattle.links.specs.Walk.{after, walk, times, falls, Circuit, Predecessor}
use Rattle.links.proofs.Ring.{here, there, in-nil, in-cons, Ring, With, Without}
use Rattle.links.proofs.Lists.{each_nil, each_cons}
use Rattle.links.proofs.Circuit.{predecessor, circuit}
use Rattle.links.proofs.Change.{insert, remove}

abbrev key : ℕ → ℕ
key m = get_or (5 ∷ 9 ∷ 7 ∷ []) m 0

-- the right links of 0 and 1, and with 2 between them
abbrev two : ℕ → Link
two m = get_or (Some 1 ∷ Some 0 ∷ []) m None

abbrev three : ℕ → Link
three m = get_or (Some 2 ∷ Some 0 ∷ Some 1 ∷ []) m None

-- ---- the words
of_three :
    (walk three 2 3 ≡ 2 ∷ 1 ∷ 0 ∷ []) × (after three 2 3 ≡ 2) × (times 1 (walk three 2 3) ≡ 1) × (falls key three (walk three 2 3) ≡ 1)
of_three = (refl, refl, refl, refl)

-- in the order 0, 1, 2 the walk falls twice: from 9 to 7, and from 7 to 5
abbrev unsorted : ℕ → Link
unsorted m = get_or (Some 1 ∷ Some 2 ∷ Some 0 ∷ []) m None

two-falls : falls key unsorted (walk unsorted 2 3) ≡ 2
two-falls = refl

-- ---- the theorems
ring_of_two : Ring key two (0 ∷ 1 ∷ [])
ring_of_two = record {
  ascending = (each_cons (λ x. 5 < key x) 1 [] (lit< tt) (each_nil _), (each_nil _, tt));
  links = (refl, (refl, tt));
}

ring_of_three : Ring key three (0 ∷ 2 ∷ 1 ∷ [])
ring_of_three = record {
  ascending = (
    each_cons (λ x. 5 < key x) 2 (1 ∷ []) (lit< tt) (each_cons (λ x. 5 < key x) 1 [] (lit< tt) (each_nil _)),
    (each_cons (λ x. 7 < key x) 1 [] (lit< tt) (each_nil _), (each_nil _, tt)),
  );
  links = (refl, (refl, (refl, tt)));
}

round_from_2 : Circuit key three (λ m. m ∈ (0 ∷ 2 ∷ 1 ∷ [])) 2
round_from_2 = circuit ring_of_three (λ m. m ∈ (0 ∷ 2 ∷ 1 ∷ [])) (λ m. (λ i. i, λ i. i)) 2 (there (here refl))

before_2 : Predecessor three (λ m. m ∈ (0 ∷ 2 ∷ 1 ∷ [])) 2
before_2 = predecessor ring_of_three (there (here refl))

-- 2 joins between 0 and 1, and is passed over again
kept : (m : ℕ) → m ≢ 0 → m ≢ 2 → three m ≡ two m
kept zero n k = absurd (n refl)
kept (suc zero) n k = refl
kept (suc (suc zero)) n k = absurd (k refl)
kept (suc (suc (suc m))) n k = refl

two_and_2 : With key three (0 ∷ 1 ∷ []) 2
two_and_2 = insert ring_of_two (here refl) new refl refl refl kept (inside (lit< tt) (lit< tt))
  where
    new : ¬ (◌∈◌ {A = ℕ} 2 (0 ∷ 1 ∷ []))
    new i = ⊎_elim (λ e. omega arith) (λ j. ⊎_elim (λ e. omega arith) in-nil (in-cons j)) (in-cons i)

three_but_2 : Without key two (0 ∷ 2 ∷ 1 ∷ []) 2
three_but_2 = remove ring_of_three (here refl) (there (here refl)) refl refl refl (λ m n k. sym (kept m n k))
