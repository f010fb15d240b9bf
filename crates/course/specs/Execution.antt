-- What a record of a script does to a network, over lists: its refusals in their order (R9.6), and
-- else what its call, its question or its drain comes to, by the rules of the crate `protocol`.
-- Definitions only.
use Rattle.std.specs.Prelude.{ℕ, true, not, List, [], ◌∷◌}
use Rattle.refusal.specs.Rules.{Coded, done, no, Rule, rule, ◌when◌, ruled}
use Rattle.serial.specs.Serial.{coded}
use Rattle.protocol.specs.declared.Order.TheVariants.{Declare as DeclareOrder}
use Rattle.protocol.specs.declared.Call.TheVariants.{Order}
use Rattle.protocol.specs.declared.Reply.{Reply}
use Rattle.protocol.specs.State.{State, declared, well_formed}
use Rattle.protocol.specs.Calls.{Result, refused, apply_of}
use Rattle.protocol.specs.Questions.{peek_of, owner_of}
use Rattle.protocol.specs.Drain.{drain_of}
use Rattle.script.specs.declared.Record.{Record}
use Rattle.script.specs.declared.Record.TheVariants.{Call, Declare, Owner, Drain, Peek}

-- ---- the refusals of the fields that the calls themselves do not see
-- R9.6: refusals 3 and 4 of a serial, as it says at its turn
abbrev pub unread : Coded ℕ → List Rule
unread (done d) = []
unread (no r) = rule r true ∷ []

-- R9.6: field by field, so that an owner's start comes before its serial
abbrev pub field_rules : State → Record → List Rule
field_rules s (Call call) = []
field_rules s (Declare serial) = unread (coded serial)
field_rules s (Owner start serial) = (5 when not (declared s start)) ∷ unread (coded serial)
field_rules s (Drain budget) = []
field_rules s Peek = []

-- ---- what is done where none of these refuses
-- R9.6: the serial; where it is refused it is not asked for
abbrev pub value_of : Coded ℕ → ℕ
value_of (done d) = d
value_of (no r) = 0

-- R7.3, R8.5: a question changes nothing and posts nothing
abbrev pub saying : State → Coded Reply → Result
saying s said = record { state = s; posts = []; said = said }

-- R9.2: a call, a declaration with the serial that was read, a question, or a drain
abbrev pub executing : State → Record → Result
executing s (Call call) = apply_of s call
executing s (Declare serial) = apply_of s (Order (DeclareOrder (value_of (coded serial))))
executing s (Owner start serial) = saying s (owner_of s start (value_of (coded serial)))
executing s (Drain budget) = drain_of s budget
executing s Peek = saying s (peek_of s)

-- R9.6: 6, the fields, and then what the call, the question or the drain refuses
unfoldable pub execute_of : State → Record → Result
execute_of s asked = ruled ((6 when not (well_formed s)) ∷ field_rules s asked) (refused s) (executing s asked)
