-- What is read of paper 01's example script, and of single records for the rules R9.2, R9.3, R9.4
-- and the refusals 1 to 4. Each computes. Assumes nothing.
use Prim.Native.Nat.{ℕ, zero, suc}
use mathlib.Core.Path.{◌≡◌, refl}
use mathlib.Core.List.{List, [], ◌∷◌}
use Rattle.refusal.specs.Code.{plain}
use Rattle.std.specs.Prelude.{Ok, Err}
use Rattle.serial.specs.declared.SerialError.TheVariants.{BadDigit, TooLarge}
use Rattle.protocol.specs.declared.Order.TheVariants.{Create, Join, Leave}
use Rattle.protocol.specs.declared.Call.TheVariants.{Order, Deliver}
use Rattle.script.specs.declared.Record.TheVariants.{Call, Declare, Owner, Drain, Peek}
use Rattle.script.specs.Script.{Read, end, stop, next, read_at}

-- ---- the example script
abbrev pub paper_script : List ℕ
paper_script =
    0x42 ∷ 0x43 ∷ 0x00 ∷ 0x00 ∷ 0x10 ∷ 0x00
    ∷ 0x42 ∷ 0x4e ∷ 0xd0 ∷ 0x07 ∷ 0x00 ∷ 0x00
    ∷ 0x43 ∷ 0x52 ∷ 0x00
    ∷ 0x4a ∷ 0x4e ∷ 0x01 ∷ 0x00 ∷ 0x00
    ∷ 0x44 ∷ 0x4c ∷ 0x00
    ∷ 0x44 ∷ 0x4c ∷ 0x01
    ∷ 0x4c ∷ 0x56 ∷ 0x00
    ∷ 0x44 ∷ 0x4c ∷ 0x01
    ∷ 0x44 ∷ 0x4c ∷ 0x00
    ∷ 0x44 ∷ 0x4c ∷ 0x00
    ∷ 0x4f ∷ 0x43 ∷ 0x00 ∷ 0x00 ∷ 0x00 ∷ 0x09 ∷ 0x99
    ∷ 0x44 ∷ 0x4c ∷ 0x00
    ∷ []

-- what is read from a cursor on, record after record, n readings at most
readings : ℕ → List ℕ → ℕ → List Read
readings zero script at = []
readings (suc n) script at = read_at script at ∷ onward (read_at script at) (readings n script)
  where
    onward : Read → (ℕ → List Read) → List Read
    onward end rest = []
    onward (stop k) rest = []
    onward (next e after) rest = rest after

paper-script :
    readings 20 paper_script 0
    ≡ next (Declare (Ok 1_000)) 6
    ∷ next (Declare (Ok 2_000)) 12
    ∷ next (Call (Order (Create 0))) 15
    ∷ next (Call (Order (Join 1 0 0))) 20
    ∷ next (Call (Deliver 0)) 23
    ∷ next (Call (Deliver 1)) 26
    ∷ next (Call (Order (Leave 0))) 29
    ∷ next (Call (Deliver 1)) 32
    ∷ next (Call (Deliver 0)) 35
    ∷ next (Call (Deliver 0)) 38
    ∷ next (Owner 0 (Ok 999)) 45
    ∷ next (Call (Deliver 0)) 48
    ∷ end
    ∷ []
unfolding read_at readings
paper-script = refl

-- ---- R9.4: bytes of a serial in the one form and in the other, and refusals 3 and 4, after which
-- the cursor goes on
packed : read_at (0x42 ∷ 0x43 ∷ 0x00 ∷ 0x00 ∷ 0x12 ∷ 0x34 ∷ []) 0 ≡ next (Declare (Ok 1_234)) 6
unfolding read_at
packed = refl

binary_too_large : read_at (0x42 ∷ 0x4e ∷ 0x00 ∷ 0x00 ∷ 0x12 ∷ 0x34 ∷ []) 0 ≡ next (Declare (Err TooLarge)) 6
unfolding read_at
binary_too_large = refl

bad_digit : read_at (0x42 ∷ 0x43 ∷ 0x00 ∷ 0x00 ∷ 0x00 ∷ 0x0a ∷ []) 0 ≡ next (Declare (Err BadDigit)) 6
unfolding read_at
bad_digit = refl

-- ---- R9.3: a budget has its low byte first
low-byte-first : read_at (0x52 ∷ 0x44 ∷ 0x01 ∷ 0x02 ∷ []) 0 ≡ next (Drain 513) 4
unfolding read_at
low-byte-first = refl

-- ---- R9.2: PK has no fields, so that the next mark follows it at once
peeks : readings 20 (0x50 ∷ 0x4b ∷ 0x50 ∷ 0x4b ∷ 0x44 ∷ 0x4c ∷ 0x00 ∷ []) 0 ≡ next Peek 2 ∷ next Peek 4 ∷ next (Call (Deliver 0)) 7 ∷ end ∷ []
unfolding read_at readings
peeks = refl

-- ---- refusal 2 of a record and of a mark cut short; refusal 1 of an unknown mark, as a mark's
-- letters are capitals
cut_in_the_mark : read_at (0x42 ∷ []) 0 ≡ stop (plain 2)
unfolding read_at
cut_in_the_mark = refl

cut_in_the_fields : read_at (0x52 ∷ 0x44 ∷ 0x01 ∷ []) 0 ≡ stop (plain 2)
unfolding read_at
cut_in_the_fields = refl

lower_case : read_at (0x62 ∷ 0x63 ∷ 0x00 ∷ 0x00 ∷ 0x12 ∷ 0x34 ∷ []) 0 ≡ stop (plain 1)
unfolding read_at
lower_case = refl
