-- R10.11, what a script does to the network, as a list of calls: after each of its records the
-- network is the one that these calls make, so all that is claimed of any list of calls holds of
-- it, and the messages posted are theirs; what its printout says; and what the records RD with
-- budget 0 and PK would come to then. Definitions only.
use Rattle.std.specs.Prelude.{ℕ, zero, suc, ◌≡◌, length, Ok, Err}
use mathlib.Core.List.{List, [], ◌∷◌, ◌++◌, map, Memᴰ}
use Rattle.refusal.specs.Code.{plain}
use Rattle.refusal.specs.Rules.{Coded, done, no}
use Rattle.protocol.specs.declared.Order.TheVariants.{Declare}
use Rattle.protocol.specs.declared.Call.{Call}
use Rattle.protocol.specs.declared.Call.TheVariants.{Order, Deliver}
use Rattle.protocol.specs.declared.Reply.{Reply}
use Rattle.protocol.specs.declared.Reply.TheVariants.{Ran}
use Rattle.protocol.specs.State.{State, status_at}
use Rattle.protocol.specs.History.{history}
use Rattle.protocol.specs.Claim.{posted_for, Settled, Sound}
use Rattle.protocol.specs.Questions.{owner_of}
use Rattle.protocol.specs.Drain.{places}
use Rattle.script.specs.declared.Record.{Record}
use Rattle.script.specs.declared.Record.TheVariants.{Call as CallRecord, Declare as DeclareRecord, Owner as OwnerRecord, Drain as DrainRecord, Peek as PeekRecord}
use Rattle.script.specs.Script.{Read, end, stop, next, read_at}
use Rattle.printout.specs.Lines.{heading, line_of}
use Rattle.course.specs.Execution.{saying, execute_of}
use Rattle.course.specs.Run.{after}

-- R10.11: the calls of a record, none where its serial is refused, and none for a question; R10.1:
-- a drain counts as its deliveries
abbrev pub calls_of : State → Record → List Call
calls_of s (CallRecord call) = call ∷ []
calls_of s (DeclareRecord (Ok key)) = Order (Declare key) ∷ []
calls_of s (DeclareRecord (Err e)) = []
calls_of s (OwnerRecord start serial) = []
calls_of s (DrainRecord budget) = map Deliver (places budget s)
calls_of s PeekRecord = []

-- R10.11: the calls of what is read at a cursor
abbrev pub calls_read : State → Read → List Call
calls_read s end = []
calls_read s (stop r) = []
calls_read s (next asked c) = calls_of s asked

-- R10.11: the calls of the record that comes after the first k of a script; past the last there are
-- none
abbrev pub next_calls : List ℕ → ℕ → List Call
next_calls script k = calls_read (after script k).state (read_at script (after script k).at)

-- R10.11: the calls of the first k records
abbrev pub script_calls : List ℕ → ℕ → List Call
script_calls script zero = []
script_calls script (suc k) = script_calls script k ++ next_calls script k

-- R9.7: the answer to what is read at a cursor; at the end there is none
abbrev pub answer_to : State → Read → List (Coded Reply)
answer_to s end = []
answer_to s (stop r) = no r ∷ []
answer_to s (next asked c) = (execute_of s asked).said ∷ []

-- R9.7: the answers to the first k records of a script
abbrev pub answers_of : List ℕ → ℕ → List (Coded Reply)
answers_of script zero = []
answers_of script (suc k) = answers_of script k ++ answer_to (after script k).state (read_at script (after script k).at)

-- R9.7: their lines, numbered from an ordinal on
abbrev pub lines : ℕ → List (Coded Reply) → List ℕ
lines ordinal [] = []
lines ordinal (said ∷ rest) = line_of ordinal said ++ lines (suc ordinal) rest

-- R10.11: what holds after k records
pub record Made (script : List ℕ) (k : ℕ) : Type 0 where
  pub network : (after script k).state ≡ (history (script_calls script k)).state
  -- R10.11: T counts what these calls post
  pub posts : (after script k).posted ≡ (history (script_calls script k)).posts
  -- the ring, as of any list of calls
  pub sound : Sound (history (script_calls script k))
  -- what these three say of T and of the network itself, R10.16 and R10.15
  pub accounts : (after script k).posted ≡ posted_for (history (script_calls script k)).grants (history (script_calls script k)).denials (after script k).state.messages
  pub settled : (after script k).state.messages ≡ [] → (u : ℕ) → Settled (status_at (after script k).state u)
  -- R9.7: the printout so far is the heading and a line for each answer
  pub printed : (after script k).text ≡ heading ++ lines 1 (answers_of script k)
  -- R10.11: none of them is 6, since every network of a script is well formed
  pub never_6 : ¬ Memᴰ (no (plain 6)) (answers_of script k)
  -- R10.11: nor 31, whoever is asked for
  pub never_31 : ¬ Memᴰ (no (plain 31)) (answers_of script k)
  pub found : (start serial : ℕ) → ¬ (owner_of (after script k).state start serial ≡ no (plain 31))
  -- R8.4: RD with budget 0, as the next record, would leave nothing waiting, and say so beside the
  -- deliveries that it makes
  pub emptied : (execute_of (after script k).state (DrainRecord 0)).state.messages ≡ []
  pub drained : (execute_of (after script k).state (DrainRecord 0)).said ≡ done (Ran (length (places 0 (after script k).state)) 0)
  -- R8.5: PK would say how many messages wait; it would change nothing, and post nothing
  pub peeked : execute_of (after script k).state PeekRecord ≡ saying (after script k).state (done (Ran 0 (length (after script k).state.messages)))

-- R10.11: for every script, whatever its bytes, and after each of its records
abbrev pub ScriptClaim : Type 0
ScriptClaim = (script : List ℕ) (k : ℕ) → Made script k
