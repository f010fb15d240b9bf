-- Laws of a number that is spelled into a buffer from its last digit to its first: each turn puts
-- one digit more in place, and after the last the number's decimal is pasted. Assumes nothing.
use Prim.Native.Nat.{ℕ, zero, suc, ◌+◌, ◌-◌, ◌/◌, ◌%◌, ◌^◌, ◌≤◌, ◌<◌}
use mathlib.Core.Path.{◌≡◌, refl, sym, ap, ◌∙◌}
use mathlib.Core.List.{List, [], ◌∷◌, ◌++◌, append_assoc}
use native.Mathlib.Omega.{arith}
use native.Mathlib.Nat.{add-zero, add-suc, mod-lt, mod-eq_of_lt}
use lib.ListN.{length, take, drop, set, length-append, length-set}
use lib.Seq.{paste, paste-zero, set_split, drop_at, take_all, take-set-le, length-take-le, append_snoc}
use Rattle.io.specs.Digits.{last_digits, IsDigitCount}
use Rattle.text.specs.Text.{decimal, digit}
use Rattle.text.specs.Buffers.{pasted, place_after}
use Rattle.text.proofs.Laws.{place_after_lem, pasted-whole, no_place, not-pasted}
use Rattle.text.proofs.DecimalLaws.{glyph_digit, fewest_decimal}

length_digits : (k n : ℕ) → length (last_digits 10 k n) ≡ k
length_digits zero n = refl
length_digits (suc k) n = simp length-append (omega (arith, length_digits k (n / 10)))

-- ---- a byte that is stored behind the place where a piece is then pasted is the last of a piece
-- one longer
drop-stored : (buffer : List ℕ) (i byte : ℕ) → i < length buffer → drop i (set buffer i byte) ≡ byte ∷ drop (suc i) buffer
drop-stored buffer i byte inside =
    ap (drop i) (set_split buffer i byte inside)
    ∙ drop_at (take i buffer) (byte ∷ drop (suc i) buffer) i (length-take-le i buffer (omega arith))

store_before : (buffer : List ℕ) (at j : ℕ) (piece : List ℕ) (byte : ℕ) → length piece ≡ j → at + j < length buffer
    → paste (set buffer (at + j) byte) at piece j ≡ paste buffer at (piece ++ byte ∷ []) (suc j)
store_before buffer at j piece byte its-length inside =
    let whole : take j piece ≡ piece = take_all j piece (omega arith) in
    let longer : take (suc j) (piece ++ byte ∷ []) ≡ piece ++ byte ∷ [] = take_all (suc j) _ (simp length-append (omega arith)) in
    rw (take-set-le at buffer (at + j) byte (omega arith), drop-stored buffer (at + j) byte inside, whole, longer, add-suc at j)
    (sym (append_snoc (take at buffer ++ piece) byte (drop (suc (at + j)) buffer))
    ∙ ap (λ (l : List ℕ). l ++ drop (suc (at + j)) buffer) (append_assoc (take at buffer) piece (byte ∷ [])))

-- ---- the k digits of n but for the first i, which hold the rest, are in place in a buffer that
-- has room for all
pub record Spelled (start : List ℕ) (at n k : ℕ) (buffer : List ℕ) (i rest : ℕ) : Type 0 where
  pub room : at + k ≤ length start
  pub within : i ≤ k
  pub same_length : length buffer ≡ length start
  pub to_come : paste buffer at (last_digits 10 i rest) i ≡ paste start at (last_digits 10 k n) k

none-spelled : (start : List ℕ) (at n k : ℕ) → at + k ≤ length start → Spelled start at n k start k n
none-spelled start at n k h = record { room = h; within = omega arith; same_length = refl; to_come = refl }

one-more-spelled : {start : List ℕ} {at n k : ℕ} {buffer : List ℕ} {j rest : ℕ} → Spelled start at n k buffer (suc j) rest
    → Spelled start at n k (set buffer (at + j) (digit (rest % 10))) j (rest / 10)
one-more-spelled {at = at} {buffer = buffer} {j} {rest} spelled =
    let byte = digit (rest % 10) in
    record {
      room = spelled.room;
      within = omega (arith, spelled.within);
      same_length = length-set buffer (at + j) byte ∙ spelled.same_length;
      to_come =
          store_before buffer at j (last_digits 10 j (rest / 10)) byte (length_digits j (rest / 10))
          (omega (arith, spelled.room, spelled.within, spelled.same_length))
          ∙ ap (λ (d : ℕ). paste buffer at (last_digits 10 j (rest / 10) ++ d ∷ []) (suc j)) (sym (glyph_digit (rest % 10) (mod-lt rest (omega arith))))
          ∙ spelled.to_come;
    }

-- ---- in the loop there are digits to come beside the first, which is put after it: the rest is
-- below ten by then
pub record Spelling (start : List ℕ) (at n k : ℕ) (buffer : List ℕ) (i rest : ℕ) : Type 0 where
  pub spelled : Spelled start at n k buffer (suc i) rest
  pub low : rest < 10 ^ suc i

pub start_to_spell : {n k : ℕ} → IsDigitCount 10 1 n k → (start : List ℕ) (at : ℕ) → at + k ≤ length start → Spelling start at n k start (k - 1) n
start_to_spell {n} {k} (some, fits, fewest) start at room =
    let whole : suc (k - 1) ≡ k = omega arith in
    record { spelled = rw whole (none-spelled start at n k room); low = rw whole fits }

pub go_on_spelling : {start : List ℕ} {at n k : ℕ} {buffer : List ℕ} {i rest : ℕ} → Spelling start at n k buffer i rest → 0 < i
    → Spelling start at n k (set buffer (at + i) (digit (rest % 10))) (i - 1) (rest / 10)
go_on_spelling {i = zero} so_far more = absurd (omega arith)
go_on_spelling {i = suc j} {rest} so_far more =
    let one_less : suc j - 1 ≡ j = omega arith in
    let low : rest < 10 ^ suc (suc j) = so_far.low in
    rw one_less record { spelled = one-more-spelled so_far.spelled; low = omega arith }

pub place_to_spell : {start : List ℕ} {at n k : ℕ} {buffer : List ℕ} {i rest : ℕ} → Spelling start at n k buffer i rest → at + i < length buffer
place_to_spell so_far = omega (arith, so_far.spelled.room, so_far.spelled.within, so_far.spelled.same_length)

pub rest_below_ten : {start : List ℕ} {at n k : ℕ} {buffer : List ℕ} {i rest : ℕ} → Spelling start at n k buffer i rest → i ≤ 0 → rest < 10
rest_below_ten {i = zero} so_far last = so_far.low
rest_below_ten {i = suc j} so_far last = absurd (omega arith)

pub end_spelling : {start : List ℕ} {at n k : ℕ} {buffer : List ℕ} {i rest : ℕ} → Spelling start at n k buffer i rest → i ≤ 0
    → Spelled start at n k (set buffer at (digit rest)) 0 (rest / 10)
end_spelling {at = at} {i = zero} {rest} so_far last =
    let one-digit : rest % 10 ≡ rest = mod-eq_of_lt so_far.low in
    rw (one-digit, add-zero at) at (one-more-spelled so_far.spelled)
end_spelling {i = suc j} so_far last = absurd (omega arith)

-- ---- what is done in the end, where k is the fewest digits that hold n
module _ {n k : ℕ} (fewest : IsDigitCount 10 1 n k) where
  pub length-decimal : length (decimal n) ≡ k
  length-decimal = ap length (sym (fewest_decimal n k fewest)) ∙ length_digits k n

  pub no-room-to-spell : (start : List ℕ) (at : ℕ) → length start < at + k
      → (at ≡ place_after start at (decimal n)) × (start ≡ pasted start at (decimal n))
  no-room-to-spell start at full =
      let full : length start < at + length (decimal n) = omega (arith, length-decimal) in
      (sym (no_place start at (decimal n) full), sym (not-pasted start at (decimal n) full))

  pub all-spelled : {start : List ℕ} {at : ℕ} {buffer : List ℕ} {rest : ℕ} → Spelled start at n k buffer 0 rest
      → (at + k ≡ place_after start at (decimal n)) × (buffer ≡ pasted start at (decimal n))
  all-spelled {start} {at} {buffer} spelled =
      let room : at + length (decimal n) ≤ length start = omega (arith, length-decimal, spelled.room) in (
        ap (λ (j : ℕ). at + j) (sym length-decimal) ∙ sym (place_after_lem start at (decimal n) room),
        paste-zero buffer at [] ∙ spelled.to_come ∙ rw (fewest_decimal n k fewest, ← length-decimal) (sym (pasted-whole start at (decimal n) room)),
      )
