-- A script, record by record: a mark of two bytes, then the fields (R9.2, R9.3, R9.4). What is read
-- at a cursor is a record with the cursor after it, the end of the script, or a refusal that stops
-- the reading. Definitions only.
use Rattle.std.specs.Prelude.{ℕ, ◌+◌, Bool, false, ◌&&◌, cond, List, [], ◌∷◌, reverse, length, get_or, drop, eqb, leb, ltb, Option, None, Some, Result, Ok, Err}
use Prim.Native.Char.{code as byte}
use Prim.Native.String.{String, [] as nothing, ◌∷◌ as ◌then◌}
use Rattle.refusal.specs.declared.Refusal.{Refusal}
use Rattle.refusal.specs.Code.{Reason, plain, reason}
use Rattle.serial.specs.Serial.{positional, packed_of, binary_of}
use Rattle.protocol.specs.declared.Order.TheVariants.{Create as CreateOrder, Join as JoinOrder, Leave as LeaveOrder}
use Rattle.protocol.specs.declared.Call.TheVariants.{Order, Deliver as DeliverCall}
use Rattle.script.specs.declared.Mark.{Mark}
use Rattle.script.specs.declared.Mark.TheVariants.{PackedDeclare, BinaryDeclare, Create, Join, Leave, Deliver, PackedOwner, BinaryOwner, Drain, Peek}
use Rattle.script.specs.declared.Record.{Record}
use Rattle.script.specs.declared.Record.TheVariants.{Call as CallRecord, Declare as DeclareRecord, Owner as OwnerRecord, Drain as DrainRecord, Peek as PeekRecord}
use Rattle.script.specs.declared.Next.{Next}

-- R9.5: what is read at a cursor: the end, a refusal that stops the reading, or a record and the
-- cursor after it
pub data Read : Type 0 where
  end : Read
  stop : Reason → Read
  next : Record → ℕ → Read

-- ---- the table of marks
-- R9.2: two bytes are the letters of a mark
abbrev pub spells : String → ℕ → ℕ → Bool
spells nothing a b = false
spells (c then nothing) a b = false
spells (c then (d then rest)) a b = eqb a (byte c) && eqb b (byte d)

-- R9.2: the marks
abbrev pub mark_of : ℕ → ℕ → Option Mark
mark_of a b =
    cond (spells "BC" a b) (Some PackedDeclare)
    (cond (spells "BN" a b) (Some BinaryDeclare)
    (cond (spells "CR" a b) (Some Create)
    (cond (spells "JN" a b) (Some Join)
    (cond (spells "LV" a b) (Some Leave)
    (cond (spells "DL" a b) (Some Deliver)
    (cond (spells "OC" a b) (Some PackedOwner)
    (cond (spells "ON" a b) (Some BinaryOwner)
    (cond (spells "RD" a b) (Some Drain)
    (cond (spells "PK" a b) (Some Peek)
    None)))))))))

-- R9.3, R9.4: a node and a place have one byte, a serial has four, a budget two; R9.2: PK has no
-- fields
abbrev pub size_of : Mark → ℕ
size_of PackedDeclare = 4
size_of BinaryDeclare = 4
size_of Create = 1
size_of Join = 3
size_of Leave = 1
size_of Deliver = 1
size_of PackedOwner = 5
size_of BinaryOwner = 5
size_of Drain = 2
size_of Peek = 0

-- R9.4: four bytes from place i on
abbrev pub four : List ℕ → ℕ → List ℕ
four fields i = get_or fields i 0 ∷ get_or fields (i + 1) 0 ∷ get_or fields (i + 2) 0 ∷ get_or fields (i + 3) 0 ∷ []

-- R9.2, R9.3, R9.4: the record that the fields make; a serial in it is a number, or the refusal
-- that comes at its turn
abbrev pub record_of : Mark → List ℕ → Record
record_of PackedDeclare fields = DeclareRecord (packed_of (four fields 0))
record_of BinaryDeclare fields = DeclareRecord (binary_of (four fields 0))
record_of Create fields = CallRecord (Order (CreateOrder (get_or fields 0 0)))
record_of Join fields = CallRecord (Order (JoinOrder (get_or fields 0 0) (get_or fields 1 0) (get_or fields 2 0)))
record_of Leave fields = CallRecord (Order (LeaveOrder (get_or fields 0 0)))
record_of Deliver fields = CallRecord (DeliverCall (get_or fields 0 0))
record_of PackedOwner fields = OwnerRecord (get_or fields 0 0) (packed_of (four fields 1))
record_of BinaryOwner fields = OwnerRecord (get_or fields 0 0) (binary_of (four fields 1))
-- R9.3: a budget has its low byte first
record_of Drain fields = DrainRecord (positional 256 (reverse (get_or fields 0 0 ∷ get_or fields 1 0 ∷ [])))
record_of Peek fields = PeekRecord

-- ---- a record at a cursor
-- refusal 1 of an unknown mark, refusal 2 of a record cut short; `at` is the cursor after the mark
abbrev pub read_fields : Option Mark → List ℕ → ℕ → Read
read_fields None fields at = stop (plain 1)
read_fields (Some mark) fields at = cond (ltb (length fields) (size_of mark)) (stop (plain 2)) (next (record_of mark fields) (at + size_of mark))

-- refusal 2 of one byte where a mark should be
unfoldable pub read_at : List ℕ → ℕ → Read
read_at script at =
    cond (leb (length script) at) end
    (cond (ltb (length script) (at + 2)) (stop (plain 2))
    (read_fields (mark_of (get_or script at 0) (get_or script (at + 1) 0)) (drop (at + 2) script) (at + 2)))

-- ---- R11.3: what the code's reading says
abbrev pub reading : Result (Option Next) Refusal → Read
reading (Ok None) = end
reading (Ok (Some r)) = next r.record r.after
reading (Err r) = stop (reason r)
