-- Serials, and the two forms that a script has them in (R1.1, R9.4). What is read is a value, or
-- which of the refusals 3 and 4 comes at the serial's turn. Definitions only.
use Rattle.std.specs.Prelude.{ℕ, ◌+◌, ◌*◌, ◌/◌, ◌%◌, ◌^◌, Bool, true, ◌&&◌, cond, List, [], ◌∷◌, reverse, length, leb, Result, Ok, Err}
use Rattle.refusal.specs.Code.{plain}
use Rattle.refusal.specs.Rules.{Coded, done, no}
use Rattle.refusal.specs.declared.Refusal.{Refusal}
use Rattle.refusal.specs.declared.Refusal.TheVariants.{BadDigit as BadDigitRefused, SerialTooLarge}
use Rattle.serial.specs.declared.SerialError.{SerialError}
use Rattle.serial.specs.declared.SerialError.TheVariants.{BadDigit, TooLarge}

-- R1.1: the range of serials
abbrev pub in_range : ℕ → Bool
in_range n = leb n 99_999_999

-- what a serial says at its turn: refusal 3 of a bad digit, refusal 4 of a value too large
abbrev pub coded : Result ℕ SerialError → Coded ℕ
coded (Ok n) = done n
coded (Err BadDigit) = no (plain 3)
coded (Err TooLarge) = no (plain 4)

-- R11.3: the same as the code's refusals
abbrev pub refusal_of : SerialError → Refusal
refusal_of BadDigit = BadDigitRefused
refusal_of TooLarge = SerialTooLarge

-- a serial handed in as a number, which refusal 4 tests
abbrev pub handed_of : ℕ → Result ℕ SerialError
handed_of n = cond (in_range n) (Ok n) (Err TooLarge)

-- R9.4: the value of digits in a base, the highest first: the sum of each times its power of the
-- base
abbrev pub positional : ℕ → List ℕ → ℕ
positional base [] = 0
positional base (d ∷ ds) = d * base ^ length ds + positional base ds

-- R9.4, binary: the lowest byte comes first
abbrev pub binary_of : List ℕ → Result ℕ SerialError
binary_of bytes = handed_of (positional 256 (reverse bytes))

-- R9.4, packed BCD: two digits to a byte, the highest first
abbrev pub digits : List ℕ → List ℕ
digits [] = []
digits (byte ∷ bytes) = byte / 16 ∷ byte % 16 ∷ digits bytes

-- refusal 3: whether no digit is above 9
abbrev pub all_decimal : List ℕ → Bool
all_decimal [] = true
all_decimal (d ∷ ds) = leb d 9 && all_decimal ds

-- R9.4, refusal 3: the value of the digits, or a bad one among them
abbrev pub packed_of : List ℕ → Result ℕ SerialError
packed_of bytes = cond (all_decimal (digits bytes)) (Ok (positional 10 (digits bytes))) (Err BadDigit)
