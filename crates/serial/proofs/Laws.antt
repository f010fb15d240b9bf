-- Laws of serials: what an answer says fixes the answer, and is 3 or 4 by its rule; a serial that
-- is read is in range. Assumes nothing.
use mathlib.Core.Path.{◌≡◌, refl, sym, ap, ◌∙◌}
use mathlib.Core.Bool.{Bool, true, false, not, cond}
use mathlib.Core.List.{List, [], ◌∷◌, reverse}
use Prim.Native.Nat.{ℕ, ◌*◌, ◌^◌, ◌<◌, ◌≤◌}
use native.Mathlib.Omega.{arith}
use native.Mathlib.Nat.{mul-le-mul_right, pow-suc}
use lib.ListN.{length}
use lib.Dec.{leb, eqb}
use borrow.Author.Tests.{leb-true, le-leb}
use Rattle.predicates.proofs.Laws.{impossible, both}
use Rattle.refusal.specs.Code.{plain, reason}
use Rattle.refusal.specs.Rules.{Coded, done, no, ◌when◌, ruled}
use Rattle.std.specs.Prelude.{Result, Ok, Err}
use Rattle.serial.specs.declared.SerialError.{SerialError}
use Rattle.serial.specs.declared.SerialError.TheVariants.{BadDigit, TooLarge}
use Rattle.serial.specs.Serial.{in_range, coded, refusal_of, handed_of, positional, binary_of, digits, all_decimal, packed_of}

pub coded_injective : (a b : Result ℕ SerialError) → coded a ≡ coded b → a ≡ b
coded_injective a b e = sym (named-coded a) ∙ ap named e ∙ named-coded b
  where
    -- which of the cases says a value, a 3, or anything else
    refused : ℕ → Result ℕ SerialError
    refused n = cond (eqb n 3) (Err BadDigit) (Err TooLarge)

    named : Coded ℕ → Result ℕ SerialError
    named (done n) = Ok n
    named (no (plain n)) = refused n

    named-coded : (a : Result ℕ SerialError) → named (coded a) ≡ a
    named-coded (Ok n) = refl
    named-coded (Err BadDigit) = refl
    named-coded (Err TooLarge) = refl

-- an error says what its refusal says
pub error_says : (e : SerialError) → coded (Err e) ≡ no (reason (refusal_of e))
error_says BadDigit = refl
error_says TooLarge = refl

-- ---- what is read says refusals 3 and 4, each by its rule
by-rule : (n v : ℕ) (ok : Bool) (wrong : Result ℕ SerialError) → coded wrong ≡ no (plain n) → coded (cond ok (Ok v) wrong) ≡ ruled ((n when not ok) ∷ []) no (done v)
by-rule n v true wrong e = refl
by-rule n v false wrong e = e

pub handed_says : (v : ℕ) → coded (handed_of v) ≡ ruled ((4 when not (in_range v)) ∷ []) no (done v)
handed_says v = by-rule 4 v (in_range v) (Err TooLarge) refl

pub binary_says : (bytes : List ℕ) → coded (binary_of bytes) ≡ ruled ((4 when not (in_range (positional 256 (reverse bytes)))) ∷ []) no (done (positional 256 (reverse bytes)))
binary_says bytes = handed_says (positional 256 (reverse bytes))

pub packed-says : (bytes : List ℕ) → coded (packed_of bytes) ≡ ruled ((3 when not (all_decimal (digits bytes))) ∷ []) no (done (positional 10 (digits bytes)))
packed-says bytes = by-rule 3 (positional 10 (digits bytes)) (all_decimal (digits bytes)) (Err BadDigit) refl

-- k decimal digits are below 10 ^ k
pub decimal-bound : (ds : List ℕ) → all_decimal ds ≡ true → positional 10 ds < 10 ^ length ds
decimal-bound [] h = omega arith
decimal-bound (d ∷ ds) h =
    let (low, rest) = both (leb d 9) (all_decimal ds) h in
    let top : d * 10 ^ length ds ≤ 9 * 10 ^ length ds = mul-le-mul_right (10 ^ length ds) (leb-true d 9 low) in
    rw pow-suc (omega (arith, decimal-bound ds rest))

-- a serial that passed its test
passed : (ok : Bool) (v n : ℕ) (wrong : Result ℕ SerialError) → (wrong ≡ Ok n → ⊥) → cond ok (Ok v) wrong ≡ Ok n → (ok ≡ true) × (v ≡ n)
passed true v n wrong d e = (refl, cc)
passed false v n wrong d e = absurd (d e)

-- whatever form it came in, a serial that is read is in range
pub handed_in_range : (v n : ℕ) → handed_of v ≡ Ok n → in_range n ≡ true
handed_in_range v n h =
    let (ok, e) = passed (in_range v) v n (Err TooLarge) (λ f. impossible cc) h in
    rw (← e) ok

pub binary_in_range : (bytes : List ℕ) (n : ℕ) → binary_of bytes ≡ Ok n → in_range n ≡ true
binary_in_range bytes n h = handed_in_range (positional 256 (reverse bytes)) n h

pub packed_in_range : (a b c d n : ℕ) → packed_of (a ∷ b ∷ c ∷ d ∷ []) ≡ Ok n → in_range n ≡ true
packed_in_range a b c d n h =
    let ds = digits (a ∷ b ∷ c ∷ d ∷ []) in
    let (ok, e) = passed (all_decimal ds) (positional 10 ds) n (Err BadDigit) (λ f. impossible cc) h in
    le-leb n 99_999_999 (omega (arith, decimal-bound ds ok))
