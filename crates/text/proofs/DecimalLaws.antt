-- Laws of numbers in decimal: what std prints for a number, and the fewest digits that hold it, are
-- its decimal; how many digits that has, and that they say the number. Assumes nothing.
use Prim.Native.Nat.{ℕ, zero, suc, ◌+◌, ◌-◌, ◌*◌, ◌/◌, ◌%◌, ◌^◌, ◌≤◌, ◌<◌}
use mathlib.Core.Path.{◌≡◌, refl, sym, ap, ◌∙◌}
use mathlib.Core.List.{List, [], ◌∷◌, ◌++◌}
use native.Mathlib.Omega.{arith}
use native.Mathlib.Nat.{one-le-pow, mod-eq_of_lt, mod-lt}
use lib.ListN.{length, length-append}
use lib.Dec.{ltb}
use borrow.Author.Tests.{lt-ltb, le-ltb, ltb-true, ltb-false}
use Rattle.std.specs.Fmt.{decimal as std_decimal}
use Rattle.std.proofs.lemmas.Fmt.{decimal_step, decimal_digit}
use Rattle.io.specs.Digits.{hex_digit_ascii, last_digits, IsDigitCount}
use Rattle.predicates.proofs.Laws.{by_test}
use Rattle.text.specs.Text.{digit, decimal_below, decimal}

-- ---- a number below ten is one digit, and any other is the digits of its tenth and one more
one-digit : (enough n : ℕ) → n < 10 → decimal_below (suc enough) n ≡ digit n ∷ []
one-digit enough n low = rw (lt-ltb n 10 low)

one-more-digit : (enough n : ℕ) → 10 ≤ n → decimal_below (suc enough) n ≡ decimal_below enough (n / 10) ++ digit (n % 10) ∷ []
one-more-digit enough n high = rw (le-ltb n 10 high)

-- ---- what std prints for a number is its decimal
printed_below : (enough n : ℕ) → n ≤ enough → n < 2 ^ 64 → std_decimal n ≡ decimal_below (suc enough) n
printed_below zero n bound small = decimal_digit n (omega arith) ∙ sym (one-digit 0 n (omega arith))
printed_below (suc enough) n bound small =
    by_test (λ (l : List ℕ). std_decimal n ≡ l) (ltb n 10) _ _
    (λ low. decimal_digit n (ltb-true _ _ low))
    (λ high.
    let high : 10 ≤ n = ltb-false _ _ high in
    decimal_step n high small
    ∙ ap (λ (l : List ℕ). l ++ digit (n % 10) ∷ []) (printed_below enough (n / 10) (omega arith) (omega arith)))

pub printed_decimal : (n : ℕ) → n < 2 ^ 64 → std_decimal n ≡ decimal n
unfolding decimal
printed_decimal n small = printed_below n n (omega arith) small

-- ---- the fewest digits that hold a number are its decimal
pub glyph_digit : (d : ℕ) → d < 10 → hex_digit_ascii d ≡ digit d
glyph_digit d low = rw (lt-ltb d 10 low)

fewest_below : (n k enough : ℕ) → n ≤ enough → n < 10 ^ suc k → (0 < k → 10 ^ k ≤ n) → last_digits 10 (suc k) n ≡ decimal_below (suc enough) n
fewest_below n zero enough bound fits fewest =
    ap (λ (d : ℕ). d ∷ []) (ap hex_digit_ascii (mod-eq_of_lt fits) ∙ glyph_digit n fits) ∙ sym (one-digit enough n fits)
fewest_below n (suc k) zero bound fits fewest = absurd (omega (arith, fewest (omega arith), one-le-pow k 10 (omega arith)))
fewest_below n (suc k) (suc enough) bound fits fewest =
    let least : 10 ^ suc k ≤ n = fewest (omega arith) in
    let tenth : last_digits 10 (suc k) (n / 10) ≡ decimal_below (suc enough) (n / 10) =
    fewest_below (n / 10) k enough (omega arith) (omega arith) (λ _. omega arith) in
    ap (λ (l : List ℕ). l ++ hex_digit_ascii (n % 10) ∷ []) tenth
    ∙ ap (λ (d : ℕ). decimal_below (suc enough) (n / 10) ++ d ∷ []) (glyph_digit (n % 10) (mod-lt n (omega arith)))
    ∙ sym (one-more-digit (suc enough) n (omega (arith, one-le-pow k 10 (omega arith))))

pub fewest_decimal : (n k : ℕ) → IsDigitCount 10 1 n k → last_digits 10 k n ≡ decimal n
unfolding decimal
fewest_decimal n zero (some, fits, fewest) = absurd (omega arith)
fewest_decimal n (suc k) (some, fits, fewest) =
    let one_less : suc k - 1 ≡ k = omega arith in
    fewest_below n k n (omega arith) fits (λ more. rw one_less at (fewest (omega arith)))

-- ---- how many digits
few-below : (enough w n : ℕ) → n < 10 ^ suc w → length (decimal_below enough n) ≤ suc w
few-below zero w n bound = omega arith
few-below (suc enough) zero n bound = rw (one-digit enough n bound) (omega arith)
few-below (suc enough) (suc w) n bound =
    by_test (λ (l : List ℕ). length l ≤ suc (suc w)) (ltb n 10) _ _
    (λ _. omega arith)
    (λ _. simp length-append (omega (arith, few-below enough w (n / 10) (omega arith))))

pub few-digits : (w n : ℕ) → 1 ≤ w → n < 10 ^ w → length (decimal n) ≤ w
unfolding decimal
few-digits zero n some bound = absurd (omega arith)
few-digits (suc w) n some bound = few-below (suc n) w n bound

pub ten_digits : (n : ℕ) → n < 2 ^ 32 → length (decimal n) ≤ 10
ten_digits n bound = few-digits 10 n (omega arith) (omega arith)

-- ---- what the digits say: each is ten times worth what it would be one place to the right
abbrev pub value : ℕ → List ℕ → ℕ
value high [] = high
value high (byte ∷ bytes) = value (10 * high + (byte - 48)) bytes

value_append : (high : ℕ) (l m : List ℕ) → value high (l ++ m) ≡ value (value high l) m
value_append high [] m = refl
value_append high (byte ∷ bytes) m = value_append (10 * high + (byte - 48)) bytes m

value-below : (enough n : ℕ) → n ≤ enough → value 0 (decimal_below (suc enough) n) ≡ n
value-below zero n bound = rw (one-digit 0 n (omega arith)) (omega arith)
value-below (suc enough) n bound =
    by_test (λ (l : List ℕ). value 0 l ≡ n) (ltb n 10) _ _
    (λ _. omega arith)
    (λ _. rw value_append (omega (arith, value-below enough (n / 10) (omega arith))))

pub decimal-value : (n : ℕ) → value 0 (decimal n) ≡ n
unfolding decimal
decimal-value n = value-below n n (omega arith)
