-- Laws of a piece that is put into a buffer: the buffer keeps its length; where the piece fits it
-- follows what stood before its place; and two pieces that are put one after the other are one
-- piece, their run. Assumes nothing.
use Prim.Native.Nat.{ℕ, ◌+◌, ◌≤◌, ◌<◌}
use mathlib.Core.Path.{◌≡◌, refl, sym, ap, ◌∙◌}
use mathlib.Core.List.{List, ◌++◌, append_assoc}
use native.Mathlib.Omega.{arith}
use native.Mathlib.Nat.{le_refl, add_assoc}
use lib.ListN.{length, take, drop, length-append}
use lib.Seq.{paste, length-paste, take-paste, drop-paste, take-length, drop-drop}
use borrow.Author.Tests.{le-leb, lt-leb, leb-true}
use borrow.Rule.Slice.PartMut.{put_mid}
use Rattle.std.proofs.lemmas.Slice.{put_mid-paste}
use Rattle.predicates.proofs.Laws.{by_test}
use Rattle.text.specs.Buffers.{fits, pasted, place_after, Put}

-- ---- where a piece does not fit
module _ (buffer : List ℕ) (at : ℕ) (piece : List ℕ) (full : length buffer < at + length piece) where
  pub no_place : place_after buffer at piece ≡ at
  unfolding place_after
  no_place = rw (lt-leb _ _ full)

  pub not-pasted : pasted buffer at piece ≡ buffer
  unfolding pasted
  not-pasted = rw (lt-leb _ _ full)

-- ---- where it fits
module _ (buffer : List ℕ) (at : ℕ) (piece : List ℕ) (room : at + length piece ≤ length buffer) where
  pub place_after_lem : place_after buffer at piece ≡ at + length piece
  unfolding place_after
  place_after_lem = rw (le-leb _ _ room)

  pub pasted-whole : pasted buffer at piece ≡ paste buffer at piece (length piece)
  unfolding pasted
  pasted-whole = rw (le-leb _ _ room)

  -- what stood before its place, the piece, and what stood behind it
  pub pasted-parts : pasted buffer at piece ≡ take at buffer ++ piece ++ drop (at + length piece) buffer
  pasted-parts = pasted-whole ∙ ap (λ (l : List ℕ). take at buffer ++ l ++ drop (at + length piece) buffer) (take-length piece)

  pub take-pasted : take (place_after buffer at piece) (pasted buffer at piece) ≡ take at buffer ++ piece
  take-pasted =
      rw (place_after_lem, pasted-whole)
      (take-paste buffer at piece (length piece) (omega arith) (le_refl _) ∙ ap (λ (l : List ℕ). take at buffer ++ l) (take-length piece))

  pub drop-pasted : drop (place_after buffer at piece) (pasted buffer at piece) ≡ drop (at + length piece) buffer
  drop-pasted = rw (place_after_lem, pasted-whole) (drop-paste buffer at piece (length piece) (omega arith) (le_refl _))

-- ---- in any case
pub length-pasted : (buffer : List ℕ) (at : ℕ) (piece : List ℕ) → length (pasted buffer at piece) ≡ length buffer
unfolding pasted
length-pasted buffer at piece =
    by_test (λ (l : List ℕ). length l ≡ length buffer) (fits buffer at piece) _ buffer
    (λ room. length-paste buffer at piece (length piece) (leb-true _ _ room) (le_refl _))
    (λ full. refl)

pub place-at-most : (buffer : List ℕ) (at : ℕ) (piece : List ℕ) → place_after buffer at piece ≤ at + length piece
unfolding place_after
place-at-most buffer at piece =
    by_test (λ (r : ℕ). r ≤ at + length piece) (fits buffer at piece) _ at (λ room. le_refl _) (λ full. omega arith)

-- ---- a run of two pieces
module _ (buffer : List ℕ) (at : ℕ) (first second : List ℕ) (room : at + length (first ++ second) ≤ length buffer) where
  pub room-for-first : at + length first ≤ length buffer
  room-for-first = omega (arith, length-append first second)

  place-after-first : place_after buffer at first ≡ at + length first
  place-after-first = place_after_lem buffer at first room-for-first

  room-for-second : place_after buffer at first + length second ≤ length (pasted buffer at first)
  room-for-second = rw (length-pasted, place-after-first) (omega (arith, length-append first second))

  run-place : place_after (pasted buffer at first) (place_after buffer at first) second ≡ place_after buffer at (first ++ second)
  run-place =
      place_after_lem _ _ second room-for-second
      ∙ omega (arith, place-after-first, length-append first second, place_after_lem buffer at (first ++ second) room)

  -- what stands behind both is as it was
  drop-second : drop (place_after buffer at first + length second) (pasted buffer at first) ≡ drop (at + length (first ++ second)) buffer
  drop-second =
      sym (drop-drop (length second) (place_after buffer at first) (pasted buffer at first))
      ∙ ap (drop (length second)) (drop-pasted buffer at first room-for-first)
      ∙ drop-drop (length second) (at + length first) buffer
      ∙ rw length-append (ap (λ (n : ℕ). drop n buffer) (add_assoc at (length first) (length second)))

  run-pasted : pasted (pasted buffer at first) (place_after buffer at first) second ≡ pasted buffer at (first ++ second)
  run-pasted =
      pasted-parts _ _ second room-for-second
      ∙ rw (take-pasted buffer at first room-for-first, drop-second, append_assoc (take at buffer) first second)
      (sym (pasted-parts buffer at (first ++ second) room))

-- ---- pieces that were put
pub put : {buffer piece after : List ℕ} {at r : ℕ} → (r ≡ place_after buffer at piece) × (after ≡ pasted buffer at piece)
    → Put buffer at piece after r
put (e, f) = record { place = e; written = f }

pub put-keeps-length : {buffer piece after : List ℕ} {at r : ℕ} → Put buffer at piece after r → length after ≡ length buffer
put-keeps-length {buffer} {piece} {at = at} p = ap length p.written ∙ length-pasted buffer at piece

pub put_both : {buffer between after first second : List ℕ} {at r s : ℕ} → Put buffer at first between r → Put between r second after s
    → at + length (first ++ second) ≤ length buffer → Put buffer at (first ++ second) after s
put_both {buffer} {first = first} {second} {at} one other room =
    record {
      place = other.place ∙ rw (one.place, one.written) (run-place buffer at first second room);
      written = other.written ∙ rw (one.place, one.written) (run-pasted buffer at first second room);
    }

pub put_four : {a b c d e piece second third fourth : List ℕ} {at r s t u : ℕ} → Put a at piece b r → Put b r second c s → Put c s third d t
    → Put d t fourth e u → at + length (piece ++ second ++ third ++ fourth) ≤ length a → Put a at (piece ++ second ++ third ++ fourth) e u
put_four {a} {piece = piece} {second} {third} {fourth} {at} p q r s room =
    let three = room-for-first a at (piece ++ second ++ third) fourth room in
    let two = room-for-first a at (piece ++ second) third three in
    put_both (put_both (put_both p q two) r three) s room

-- ---- a part of a buffer, over which a piece is copied
pub put_over : (buffer : List ℕ) (at k : ℕ) (piece : List ℕ) → k ≡ length piece → at + k ≤ length buffer
    → put_mid at k buffer piece ≡ pasted buffer at piece
put_over buffer at k piece whole room =
    put_mid-paste at k buffer piece piece (length piece) refl (sym whole) refl ∙ sym (pasted-whole buffer at piece (omega arith))

-- what `text::append` needs of these
pub ruleset put_one = (no_place, not-pasted, place_after_lem, put_over)
