-- What the loop needs: a word is put together bit by bit. Assumes nothing.
use mathlib.Core.Path.{◌≡◌, sym, ◌∙◌}
use mathlib.Core.Bool.{Bool, true, false}
use Prim.Native.Nat.{ℕ, suc, ◌*◌, ◌^◌, ◌%◌, ◌<◌}
use native.Mathlib.Nat.{one-mul}
use native.Mathlib.Omega.{arith}
use lib.Pow.{shl_exact}
use lib.Bits.{bit_or}
use Rattle.predicates.specs.Tests.{word_below}
use Rattle.predicates.proofs.WordLaws.{word_with, word-without, word-or}

module _ (test : ℕ → Bool) (word n : ℕ) (so_far : word ≡ word_below n test) where
  -- the next number passes, and its bit is put in
  pub bit-put : test n ≡ true → n < 32 → bit_or word (1 * 2 ^ n % 2 ^ 32) ≡ word_below (suc n) test
  bit-put e small = rw (so_far, shl_exact {a = 1} 1 n 32 (omega arith) (omega arith), one-mul) (word-or n test ∙ sym (word_with n test e))

  -- it does not
  pub bit-left : test n ≡ false → word ≡ word_below (suc n) test
  bit-left e = so_far ∙ sym (word-without n test e)
