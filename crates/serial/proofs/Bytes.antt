-- What std says of four bytes is what the forms of a serial say. Assumes nothing.
use Rattle.std.proofs.Common.{arith}
use Rattle.std.specs.Prelude.{◌≡◌, ℕ, List, [], ◌∷◌, ◌/◌, ◌%◌, ◌&&◌, Bool, true, false, leb, reverse, length}
use mathlib.Core.Path.{refl}
use Rattle.std.specs.Int.{w32, from_le_bytes}
use Rattle.std.specs.List.{list_all}
use Rattle.predicates.proofs.Laws.{impossible}
use Rattle.serial.specs.Serial.{digits, all_decimal, positional}

-- each byte's digits, tested by themselves
pub each_packed : (bytes : List ℕ) → list_all (λ byte. leb (byte / 16) 9 && leb (byte % 16) 9) bytes ≡ all_decimal (digits bytes)
each_packed [] = refl
each_packed (byte ∷ bytes) = go (leb (byte / 16) 9) (each_packed bytes)
  where
    go : (high : Bool) → list_all (λ byte. leb (byte / 16) 9 && leb (byte % 16) 9) bytes ≡ all_decimal (digits bytes)
        → ((high && leb (byte % 16) 9) && list_all (λ byte. leb (byte / 16) 9 && leb (byte % 16) 9) bytes) ≡ (high && (leb (byte % 16) 9 && all_decimal (digits bytes)))
    go true e = rw e refl
    go false e = refl

-- the lowest byte comes first
pub low_first : (bytes : List ℕ) → length bytes ≡ 4 → from_le_bytes w32 bytes ≡ positional 256 (reverse bytes)
low_first [] e = impossible cc
low_first (a ∷ []) e = impossible cc
low_first (a ∷ b ∷ []) e = impossible cc
low_first (a ∷ b ∷ c ∷ []) e = impossible cc
low_first (a ∷ b ∷ c ∷ d ∷ []) e = omega arith
low_first (a ∷ b ∷ c ∷ d ∷ f ∷ rest) e = impossible cc
