-- The count and the word of the numbers below a bound that pass a test: the word has one bit for
-- each number, as many set as the count says, and bit u says whether u passes. By going up to the
-- bound, one bit on top of the others each time. Assumes nothing.
use mathlib.Core.Path.{◌≡◌, refl, sym, ap, ap₂, ◌∙◌}
use mathlib.Core.Bool.{Bool, true, false}
use Prim.Native.Nat.{ℕ, zero, suc, ◌+◌, ◌-◌, ◌/◌, ◌%◌, ◌^◌, ◌≤◌, ◌<◌}
use native.Mathlib.Nat.{add_comm, one-mul, pow-succ', sub-add_cancel, zero-mod, div-eq_of_lt, lt_of_lt_of_le}
use native.Mathlib.Decide.{ℕ_discrete}
use native.Mathlib.Omega.{arith}
use lib.Arith.{digits_lt}
use lib.Pow.{pow_mono, high, low, field, mod-mod-pow}
use lib.Bits.{bit_or, or_shifted_r}
use lib.Count.{ones, ones_cat}
use Rattle.predicates.specs.Tests.{bit, count_below, word_below}

-- ---- one bit
bit-small : (b : Bool) → bit b < 2
bit-small true = omega arith
bit-small false = omega arith

ones_of_bit : (b : Bool) → ones (bit b) ≡ bit b
unfolding ones
ones_of_bit true = refl
ones_of_bit false = refl

bit-alone : (b : Bool) → bit b % 2 ≡ bit b
bit-alone true = refl
bit-alone false = refl

-- ---- the size of the word, and its bits set
pub word_fits : (n : ℕ) (test : ℕ → Bool) → word_below n test < 2 ^ n
word_fits zero test = omega arith
word_fits (suc n) test = rw pow-succ' (digits_lt (bit-small (test n)) (word_fits n test))

pub word_ones : (n : ℕ) (test : ℕ → Bool) → ones (word_below n test) ≡ count_below n test
unfolding ones
word_ones zero test = refl
word_ones (suc n) test =
    ones_cat n (bit (test n)) (word_below n test) (word_fits n test)
    ∙ ap₂ (λ (x y : ℕ). x + y) (ones_of_bit (test n)) (word_ones n test)
    ∙ add_comm (bit (test n)) (count_below n test)

-- ---- each bit of the word
-- bit u of a number is that of its n low bits, for u below n
low_bit : (x n u : ℕ) → u < n → x % 2 ^ n / 2 ^ u % 2 ≡ x / 2 ^ u % 2
low_bit x n u k =
    let above : n - (1 + u) + (1 + u) ≡ n = sub-add_cancel (omega arith) in
    sym (field (x % 2 ^ n) 1 u)
    ∙ ap (λ (m : ℕ). x % 2 ^ m % 2 ^ (1 + u) / 2 ^ u) (sym above)
    ∙ ap (λ (y : ℕ). y / 2 ^ u) (mod-mod-pow x (n - (1 + u)) (1 + u))
    ∙ field x 1 u

-- the bit on top, and those below it
module _ (n : ℕ) (test : ℕ → Bool) where
  top_bit : word_below (suc n) test / 2 ^ n % 2 ≡ bit (test n)
  top_bit = ap (λ (x : ℕ). x % 2) (high (bit (test n)) n (word_fits n test)) ∙ bit-alone (test n)

  under_top : (u : ℕ) → u < n → word_below (suc n) test / 2 ^ u % 2 ≡ word_below n test / 2 ^ u % 2
  under_top u k = sym (low_bit (word_below (suc n) test) n u k) ∙ ap (λ (x : ℕ). x / 2 ^ u % 2) (low (bit (test n)) n (word_fits n test))

pub word-bit : (n : ℕ) (test : ℕ → Bool) (u : ℕ) → u < n → word_below n test / 2 ^ u % 2 ≡ bit (test u)
word-bit zero test u k = absurd (omega arith)
word-bit (suc n) test u k = go (word-bit n test u) (ℕ_discrete u n)
  where
    go : (u < n → word_below n test / 2 ^ u % 2 ≡ bit (test u)) → Dec (u ≡ n) → word_below (suc n) test / 2 ^ u % 2 ≡ bit (test u)
    go before (yes e) = rw e (top_bit n test)
    go before (no d) = let l : u < n = omega arith in under_top n test u l ∙ before l

pub word-past : (n : ℕ) (test : ℕ → Bool) (u : ℕ) → n ≤ u → word_below n test / 2 ^ u % 2 ≡ 0
word-past n test u k = ap (λ (x : ℕ). x % 2) (div-eq_of_lt (lt_of_lt_of_le (word_fits n test) (pow_mono k))) ∙ zero-mod 2

-- ---- tests that agree below the bound
pub words_agree : (n : ℕ) (f g : ℕ → Bool) → ((u : ℕ) → u < n → f u ≡ g u) → word_below n f ≡ word_below n g
words_agree zero f g same = refl
words_agree (suc n) f g same = rw (same n (omega arith), words_agree n f g (λ u k. same u (omega arith)))

-- ---- one number more
pub word_with : (n : ℕ) (test : ℕ → Bool) → test n ≡ true → word_below (suc n) test ≡ 2 ^ n + word_below n test
word_with n test e = rw (e, one-mul)

pub word-without : (n : ℕ) (test : ℕ → Bool) → test n ≡ false → word_below (suc n) test ≡ word_below n test
word-without n test e = rw e (omega arith)

-- the bit on top may be put in by `|`
pub word-or : (n : ℕ) (test : ℕ → Bool) → bit_or (word_below n test) (2 ^ n) ≡ 2 ^ n + word_below n test
word-or n test = rw one-mul at (or_shifted_r 1 n (word_below n test) (word_fits n test))
