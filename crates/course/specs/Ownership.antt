-- R7.5, R7.7, 02 (iv), of scripts: who owns which serial after each record, as the record that asks
-- for an owner is answered, and which serials the next record passes on. It is stated in full, and
-- cites no proof. Definitions only.
use Rattle.std.specs.Prelude.{ℕ, ◌≡◌, Result, Ok}
use mathlib.Core.List.{List}
use Rattle.serial.specs.declared.SerialError.{SerialError}
use Rattle.protocol.specs.History.{history}
use Rattle.protocol.specs.Ownership.{Owned, InTurn}
use Rattle.script.specs.declared.Record.TheVariants.{Owner, Peek}
use Rattle.course.specs.Execution.{execute_of}
use Rattle.course.specs.Run.{after}
use Rattle.course.specs.Claim.{next_calls, script_calls}

-- after k records
pub record ScriptOwnership (script : List ℕ) (k : ℕ) : Type 0 where
  -- R10.11: the network is the one that their calls make
  pub network : (after script k).state ≡ (history (script_calls script k)).state
  -- R7.5: as an owner record would be answered
  pub owned : Owned (after script k).state (λ start serial. (execute_of (after script k).state (Owner start (Ok serial))).said)
  -- R7.7: an owner record changes nothing, whatever it asks, refused or not; nor does PK (as
  -- `ScriptClaim` has it)
  pub owner_changes_nothing : (start : ℕ) (serial : Result ℕ SerialError) → (execute_of (after script k).state (Owner start serial)).state ≡ (after script k).state
  pub peek_changes_nothing : (execute_of (after script k).state Peek).state ≡ (after script k).state
  -- R7.7: what the next record passes on, its calls pass on, in turn: a question has none, a drain
  -- has its deliveries. They lead where it leads (`network`, after k + 1 records)
  pub in_turn : InTurn (history (script_calls script k)) (next_calls script k)

-- R7.5, R7.7: for every script, whatever its bytes, and after each of its records
abbrev pub ScriptOwnershipClaim : Type 0
ScriptOwnershipClaim = (script : List ℕ) (k : ℕ) → ScriptOwnership script k
