-- Refusals that no record meets: 6 on a well-formed network, and 31 on a network that a list of
-- calls makes. The fields give 3, 4 and 5, and what a record does then is a call, a question or a
-- drain. Assumes nothing.
use mathlib.Core.Path.{◌≡◌, refl, ap}
use mathlib.Core.Bool.{false, not}
use mathlib.Core.List.{List, ◌∷◌}
use Rattle.std.specs.Prelude.{Option, None, Some, Result, Ok, Err}
use Prim.Native.Nat.{ℕ}
use lib.Dec.{T, eqb}
use Rattle.predicates.proofs.Laws.{impossible}
use Rattle.predicates.proofs.TestLaws.{is_true, not-both}
use Rattle.refusal.specs.Code.{Reason, plain}
use Rattle.refusal.specs.Rules.{no, ◌when◌, first, unless_refused}
use Rattle.refusal.proofs.Laws.{Never, end, other, fails, never}
use Rattle.serial.specs.declared.SerialError.{SerialError}
use Rattle.serial.specs.declared.SerialError.TheVariants.{BadDigit, TooLarge}
use Rattle.serial.specs.Serial.{coded}
use Rattle.protocol.specs.declared.Order.TheVariants.{Declare as DeclareOrder}
use Rattle.protocol.specs.declared.Call.{Call as AnyCall}
use Rattle.protocol.specs.declared.Call.TheVariants.{Order}
use Rattle.protocol.specs.State.{State, well_formed}
use Rattle.protocol.specs.Calls.{refused}
use Rattle.protocol.specs.Questions.{peek_of}
use Rattle.protocol.specs.History.{history}
use Rattle.protocol.proofs.Facts.{well-formed}
use Rattle.protocol.proofs.Refusals.{six, calls_never_31, owner_never_six}
use Rattle.protocol.proofs.Drains.{drain_is}
use Rattle.protocol.proofs.Owners.{always_found}
use Rattle.protocol.proofs.Theorem.{ring}
use Rattle.script.specs.declared.Record.{Record}
use Rattle.script.specs.declared.Record.TheVariants.{Call, Declare, Owner, Drain, Peek}
use Rattle.course.specs.Execution.{unread, field_rules, value_of, executing, execute_of}

-- ---- the fields give 3, 4 and 5
serial_gives : {n : ℕ} → eqb 3 n ≡ false → eqb 4 n ≡ false → (serial : Result ℕ SerialError) → Never n (unread (coded serial))
serial_gives three four (Ok d) = end
serial_gives three four (Err BadDigit) = other three (λ _. end)
serial_gives three four (Err TooLarge) = other four (λ _. end)

fields_give : {n : ℕ} → eqb 3 n ≡ false → eqb 4 n ≡ false → eqb 5 n ≡ false → (s : State) (asked : Record) → Never n (field_rules s asked)
fields_give three four five s (Call call) = end
fields_give three four five s (Declare serial) = serial_gives three four serial
fields_give three four five s (Owner start serial) = other five (λ _. serial_gives three four serial)
fields_give three four five s (Drain budget) = end
fields_give three four five s Peek = end

-- ---- so a record of a well-formed network says another number only where what it does says it
said_by_doing : (s : State) → T (well_formed s) → (asked : Record) {n : ℕ} → Never n (field_rules s asked) → ¬ ((executing s asked).said ≡ no (plain n)) → ¬ ((execute_of s asked).said ≡ no (plain n))
unfolding execute_of
said_by_doing s w asked {n} fields doing e = go (first ((6 when not (well_formed s)) ∷ field_rules s asked)) refl e
  where
    rules : Never n ((6 when not (well_formed s)) ∷ field_rules s asked)
    rules = fails (ap not (is_true (well_formed s) w)) fields

    go : (o : Option Reason) → first ((6 when not (well_formed s)) ∷ field_rules s asked) ≡ o → ¬ ((unless_refused o (refused s) (executing s asked)).said ≡ no (plain n))
    go None clear f = doing f
    go (Some r) refuses f = never rules cc

-- a drain of a well-formed network is not refused, nor the question how many messages wait
drain_done : (s : State) → T (well_formed s) → (budget : ℕ) (r : Reason) → ¬ ((executing s (Drain budget)).said ≡ no r)
drain_done s w budget r e = let f = rw (drain_is s budget w) at e in impossible cc

peek_done : (s : State) → T (well_formed s) → (r : Reason) → ¬ ((executing s Peek).said ≡ no r)
unfolding peek_of
peek_done s w r e = let f = rw (is_true (well_formed s) w) at e in impossible cc

-- ---- 6
call-not-six : (s : State) → T (well_formed s) → (call : AnyCall) → ¬ ((executing s (Call call)).said ≡ no (plain 6))
call-not-six s w call e = not-both (is_true _ w) ((six s call).0 e)

doing_not_six : (s : State) → T (well_formed s) → (asked : Record) → ¬ ((executing s asked).said ≡ no (plain 6))
doing_not_six s w (Call call) = call-not-six s w call
doing_not_six s w (Declare serial) = call-not-six s w (Order (DeclareOrder (value_of (coded serial))))
doing_not_six s w (Owner start serial) = owner_never_six s (well-formed s (is_true _ w)) start (value_of (coded serial))
doing_not_six s w (Drain budget) = drain_done s w budget (plain 6)
doing_not_six s w Peek = peek_done s w (plain 6)

pub never-six : (s : State) → T (well_formed s) → (asked : Record) → ¬ ((execute_of s asked).said ≡ no (plain 6))
never-six s w asked = said_by_doing s w asked (fields_give refl refl refl s asked) (doing_not_six s w asked)

-- ---- 31
module _ (calls : List AnyCall) where
  abbrev here : State
  here = (history calls).state

  well-formed-here : T (well_formed here)
  well-formed-here = (ring calls).well_formed

  doing-not-31 : (asked : Record) → ¬ ((executing here asked).said ≡ no (plain 31))
  doing-not-31 (Call call) = calls_never_31 here call
  doing-not-31 (Declare serial) = calls_never_31 here (Order (DeclareOrder (value_of (coded serial))))
  doing-not-31 (Owner start serial) = always_found calls start (value_of (coded serial))
  doing-not-31 (Drain budget) = drain_done here well-formed-here budget (plain 31)
  doing-not-31 Peek = peek_done here well-formed-here (plain 31)

  pub never_31 : (asked : Record) → ¬ ((execute_of here asked).said ≡ no (plain 31))
  never_31 asked = said_by_doing here well-formed-here asked (fields_give refl refl refl here asked) (doing-not-31 asked)
