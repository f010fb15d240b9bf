-- Who owns which serial after each record of a script, and which serials the next record passes on:
-- its calls do, and a question has none. An owner record is answered as the question is. Assumes
-- nothing.
use mathlib.Core.Path.{◌≡◌, refl}
use mathlib.Core.Bool.{Bool, true, false, not}
use mathlib.Core.List.{List, [], ◌∷◌}
use Rattle.std.specs.Prelude.{Option, None, Some, Ok}
use Prim.Native.Nat.{ℕ}
use lib.Dec.{T}
use Rattle.predicates.proofs.TestLaws.{is_true}
use Rattle.refusal.specs.Code.{Reason}
use Rattle.refusal.specs.Rules.{Coded, no, Rule, ◌when◌, first, unless_refused, ruled}
use Rattle.serial.specs.Serial.{in_range}
use Rattle.protocol.specs.declared.Call.{Call}
use Rattle.protocol.specs.declared.Reply.{Reply}
use Rattle.protocol.specs.State.{State, declared, well_formed, inserted}
use Rattle.protocol.specs.Calls.{refused}
use Rattle.protocol.specs.History.{history}
use Rattle.protocol.specs.Questions.{walked, owner_from, owner_of, hop_limit}
use Rattle.protocol.specs.Ownership.{Owned}
use Rattle.protocol.proofs.Theorem.{ring}
use Rattle.protocol.proofs.Ownership.{asked_alike, turns, ownership}
use Rattle.script.specs.declared.Record.{Record}
use Rattle.script.specs.declared.Record.TheVariants.{Owner, Peek}
use Rattle.course.specs.Execution.{field_rules, saying, executing, execute_of}
use Rattle.course.specs.Run.{after}
use Rattle.course.specs.Claim.{next_calls, script_calls}
use Rattle.course.specs.Ownership.{ScriptOwnershipClaim}
use Rattle.course.proofs.Theorem.{script_is_calls}

-- where what is asked changes nothing, neither does its refusal
still : (s : State) (asked : Record) → (executing s asked).state ≡ s → (execute_of s asked).state ≡ s
unfolding execute_of
still s asked same = go (first ((6 when not (well_formed s)) ∷ field_rules s asked))
  where
    go : (o : Option Reason) → (unless_refused o (refused s) (executing s asked)).state ≡ s
    go None = same
    go (Some r) = refl

-- an owner record tests 5, and then asks the question, which tests 5 again
five_once_more : (s : State) (known : Bool) (rest : List Rule) (walk : Coded Reply)
    → (ruled ((5 when not known) ∷ []) (refused s) (saying s (ruled ((5 when not known) ∷ rest) no walk))).said ≡ ruled ((5 when not known) ∷ rest) no walk
five_once_more s true rest walk = refl
five_once_more s false rest walk = refl

owner_said : (s : State) → T (well_formed s) → (from serial : ℕ) → (execute_of s (Owner from (Ok serial))).said ≡ owner_of s from serial
unfolding execute_of owner_of
owner_said s w from serial =
    rw (is_true (well_formed s) w)
    (five_once_more s (declared s from) ((4 when not (in_range serial)) ∷ (30 when not (inserted s from)) ∷ []) (walked (owner_from s serial (hop_limit s) from 0)))

-- of a network that a list of calls makes
record_owned : (calls : List Call) → Owned (history calls).state (λ from serial. (execute_of (history calls).state (Owner from (Ok serial))).said)
record_owned calls = asked_alike (owner_said (history calls).state (ring calls).well_formed) (ownership calls).owned

pub script_ownership : ScriptOwnershipClaim
script_ownership script k =
    let network = (script_is_calls script k).network in
    record {
      network = network;
      owned = rw network (record_owned (script_calls script k));
      owner_changes_nothing = λ from serial. still (after script k).state (Owner from serial) refl;
      peek_changes_nothing = still (after script k).state Peek refl;
      in_turn = turns (script_calls script k) (next_calls script k);
    }
