-- Laws of a piece that is put behind what a page has: it stays within the page, and the page holds
-- it behind what it had, where there is room. Assumes nothing.
use Prim.Native.Nat.{ℕ, ◌+◌, ◌≤◌, ◌<◌}
use mathlib.Core.Path.{◌≡◌}
use mathlib.Core.List.{List}
use native.Mathlib.Omega.{arith}
use lib.ListN.{length, take}
use lib.Seq.{length-take-le}
use borrow.Author.Tests.{leb-true, leb-false}
use Rattle.predicates.proofs.Laws.{by_test}
use Rattle.text.specs.Buffers.{fits, pasted, place_after}
use Rattle.text.specs.Pages.{appended}
use Rattle.text.proofs.Laws.{no_place, not-pasted, take-pasted}

module _ (size : ℕ) (bytes : List ℕ) (at : ℕ) (piece : List ℕ) (whole : length bytes ≡ size) (inside : at ≤ size) where
  pub place_inside : place_after bytes at piece ≤ size
  unfolding place_after
  place_inside = by_test (λ (r : ℕ). r ≤ size) (fits bytes at piece) _ _ (λ room. omega (arith, leb-true _ _ room)) (λ full. inside)

  pub text_after : take (place_after bytes at piece) (pasted bytes at piece) ≡ appended size (take at bytes) piece
  text_after =
      rw (length-take-le at bytes (omega arith), ← whole)
      (by_test (λ (l : List ℕ). take (place_after bytes at piece) (pasted bytes at piece) ≡ l) (fits bytes at piece) _ _
      (λ room. take-pasted bytes at piece (leb-true _ _ room))
      (λ full. let full : length bytes < at + length piece = leb-false _ _ full in rw (no_place, not-pasted)))
