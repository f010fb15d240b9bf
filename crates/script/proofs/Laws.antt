-- Laws of reading: past the end nothing is read; and where a reading leaves the cursor: past a mark
-- and, but for PK, at least one byte, within the script. Assumes nothing.
use Prim.Native.Nat.{ℕ, ◌+◌, ◌≤◌, ◌<◌}
use mathlib.Core.Path.{◌≡◌, refl, subst}
use mathlib.Core.Logic.{◌⊎◌, inl, inr}
use mathlib.Core.List.{List}
use native.Mathlib.Omega.{arith}
use native.Mathlib.Nat.{not-le_of_lt}
use lib.ListN.{length, get_or, drop, length-drop}
use lib.Dec.{ltb, leb}
use borrow.Author.Tests.{ltb-false, leb-true, le-leb}
use Rattle.predicates.proofs.Laws.{by_test}
use Rattle.std.specs.Prelude.{Option, None, Some}
use Rattle.refusal.specs.Code.{Reason, plain}
use Rattle.script.specs.declared.Record.{Record}
use Rattle.script.specs.declared.Record.TheVariants.{Call, Declare, Owner, Drain as DrainRecord, Peek as PeekRecord}
use Rattle.script.specs.declared.Mark.{Mark}
use Rattle.script.specs.declared.Mark.TheVariants.{PackedDeclare, BinaryDeclare, Create, Join, Leave, Deliver, PackedOwner, BinaryOwner, Drain, Peek}
use Rattle.script.specs.Script.{Read, end, stop, next, mark_of, size_of, record_of, read_fields, read_at}

abbrev pub mark_at : List ℕ → ℕ → Option Mark
mark_at script at = mark_of (get_or script at 0) (get_or script (at + 1) 0)

-- ---- past the end nothing stands at the cursor
pub at-end : (script : List ℕ) (at : ℕ) → length script ≤ at → read_at script at ≡ end
unfolding read_at
at-end script at past = rw (le-leb (length script) at past)

-- how many bytes a record has at least
abbrev pub least : Record → ℕ
least (Call call) = 3
least (Declare serial) = 3
least (Owner start serial) = 3
least (DrainRecord budget) = 3
least PeekRecord = 2

pub two-at-least : (e : Record) → 2 ≤ least e
two-at-least (Call call) = omega arith
two-at-least (Declare serial) = omega arith
two-at-least (Owner start serial) = omega arith
two-at-least (DrainRecord budget) = omega arith
two-at-least PeekRecord = omega arith

-- its mark and its fields are no fewer
whole-record : (mark : Mark) (fields : List ℕ) → least (record_of mark fields) ≤ 2 + size_of mark
whole-record PackedDeclare fields = omega arith
whole-record BinaryDeclare fields = omega arith
whole-record Create fields = omega arith
whole-record Join fields = omega arith
whole-record Leave fields = omega arith
whole-record Deliver fields = omega arith
whole-record PackedOwner fields = omega arith
whole-record BinaryOwner fields = omega arith
whole-record Drain fields = omega arith
whole-record Peek fields = omega arith

-- ---- where a reading leaves the cursor: nothing is left at the end; it stops by 1 or 2; a record
-- is within the script
abbrev Leaves : List ℕ → ℕ → Read → Type 0
Leaves script at end = length script ≤ at
Leaves script at (stop r) = (r ≡ plain 1) ⊎ (r ≡ plain 2)
Leaves script at (next e after) = (at + least e ≤ after) × (after ≤ length script)

module _ (script : List ℕ) (at : ℕ) where
  fields-leave : (lookup : Option Mark) → at + 2 ≤ length script → Leaves script at (read_fields lookup (drop (at + 2) script) (at + 2))
  fields-leave None whole = inl refl
  fields-leave (Some mark) whole =
      by_test (Leaves script at) (ltb (length (drop (at + 2) script)) (size_of mark)) _ _ (λ short. inr refl)
      (λ fits. (omega (arith, whole-record mark (drop (at + 2) script)), omega (arith, length-drop (at + 2) script, ltb-false)))

  leaves : Leaves script at (read_at script at)
  unfolding read_at
  leaves =
      by_test (Leaves script at) (leb (length script) at) _ _ (leb-true _ _) (λ within.
      by_test (Leaves script at) (ltb (length script) (at + 2)) _ _ (λ short. inr refl) (λ whole.
      fields-leave (mark_at script at) (ltb-false _ _ whole)))

  pub after-cursor : (e : Record) (after : ℕ) → read_at script at ≡ next e after → (at + least e ≤ after) × (after ≤ length script)
  after-cursor e after read = subst (Leaves script at) read leaves

  pub before-end : at < length script → read_at script at ≡ end → ⊥
  before-end within read = not-le_of_lt within (subst (Leaves script at) read leaves)

  -- the reading stops by 1 or 2 alone
  pub stops-by : (r : Reason) → read_at script at ≡ stop r → (r ≡ plain 1) ⊎ (r ≡ plain 2)
  stops-by r read = subst (Leaves script at) read leaves
