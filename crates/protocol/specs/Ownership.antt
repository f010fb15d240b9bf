-- R7.5, R7.6, R7.7, 02 (iv): who owns which serial after each call of a list, and which serials
-- passed from one node to another by the call (02: moved). It is claimed of every list of calls
-- and of what comes next; it is stated here in full, and cites no proof. A serial is any number
-- here, in range or not: only the question asks for the range, since it refuses any other (4).
-- Definitions only.
use Rattle.std.specs.Prelude.{◌≡◌, ◌↔◌, ℕ, T, Some}
use mathlib.Core.List.{List, [], ◌∷◌, ◌++◌, map}
use Rattle.refusal.specs.Rules.{Coded, done}
use Rattle.serial.specs.Serial.{in_range}
use Rattle.interval.specs.Interval.{within}
use Rattle.protocol.specs.declared.Call.{Call}
use Rattle.protocol.specs.declared.Call.TheVariants.{Deliver}
use Rattle.protocol.specs.declared.Reply.{Reply}
use Rattle.protocol.specs.declared.Reply.TheVariants.{Owner}
use Rattle.protocol.specs.State.{State, key_at, right_at}
use Rattle.protocol.specs.Events.{Event, stays, founded, admitted, released, emptied}
use Rattle.protocol.specs.History.{History, happened, advanced, history}
use Rattle.protocol.specs.Claim.{Inserted}
use Rattle.protocol.specs.Questions.{owner_of}
use Rattle.protocol.specs.Drain.{places, drain_of}
use Rattle.protocol.specs.FurtherClaims.{Owns}

-- ---- one owner, the same from every inserted start
-- R7.5: one node owns the serial, and no other does
pub record OneOwner (s : State) (serial : ℕ) : Type 0 where
  pub node : ℕ
  pub owns : Owns s serial node
  pub only : (u : ℕ) → Owns s serial u → u ≡ node

-- R7.5: the answer to a question for an owner names u, after whatever hops
abbrev pub Names : Coded Reply → ℕ → Type 0
Names said u = (hops : ℕ) × (said ≡ done (Owner u hops))

-- R7.5: what is owned in s, where `asked` is what the question for an owner answers, from a start
-- and for a serial
pub record Owned (s : State) (asked : ℕ → ℕ → Coded Reply) : Type 0 where
  -- while a node is inserted, each serial has one owner
  pub one_owner : (w : ℕ) → Inserted s w → (serial : ℕ) → OneOwner s serial
  -- whichever inserted start is asked names it; no other start names anybody
  pub named : (start serial u : ℕ) → Names (asked start serial) u ↔ (Inserted s start × (T (in_range serial) × Owns s serial u))

-- ---- from the network s before a call to the network s' after it
-- R7.6: the serial passed from a, which owned it, to b, which owns it now
abbrev pub Passes : State → State → ℕ → ℕ → ℕ → Type 0
Passes s s' serial a b = Owns s serial a × Owns s' serial b

-- R7.6: the serial did not pass: who owns it now owned it, and the other way round
abbrev pub SameOwner : State → State → ℕ → Type 0
SameOwner s s' serial = (u : ℕ) → Owns s' serial u ↔ Owns s serial u

-- R7.6, a join of v granted by p: v owned nothing, and gets from p the serials from its own key up
-- to the key of its right link; no other serial passes
pub record ByJoin (s s' : State) (v p : ℕ) : Type 0 where
  pub next : ℕ
  pub right : right_at s' v ≡ Some next
  pub none_before : (serial : ℕ) → ¬ Owns s serial v
  pub passed : (serial : ℕ) → T (within (key_at s' v) (key_at s' next) serial) → Passes s s' serial p v
  pub kept : (serial : ℕ) → ¬ T (within (key_at s' v) (key_at s' next) serial) → SameOwner s s' serial

-- R7.6, a leave of v granted by p: p gets all that v owned, its key for one, and no other serial
-- passes
pub record ByLeave (s s' : State) (v p : ℕ) : Type 0 where
  pub own_key : Owns s (key_at s v) v
  pub passed : (serial : ℕ) → Owns s serial v → Passes s s' serial v p
  pub kept : (serial : ℕ) → ¬ Owns s serial v → SameOwner s s' serial
  pub none_after : (serial : ℕ) → ¬ Owns s' serial v

-- R7.6, the creation of u: nobody owned anything, and now u alone owns every serial
pub record ByCreation (s s' : State) (u : ℕ) : Type 0 where
  pub none_before : (serial w : ℕ) → ¬ Owns s serial w
  pub all_after : (serial w : ℕ) → Owns s' serial w ↔ (w ≡ u)

-- R7.6, u leaves alone: it alone owned every serial, and now nobody owns any
pub record ByLoneLeave (s s' : State) (u : ℕ) : Type 0 where
  pub all_before : (serial w : ℕ) → Owns s serial w ↔ (w ≡ u)
  pub none_after : (serial w : ℕ) → ¬ Owns s' serial w

-- R7.6: which serials a call passed on, by its event, which is read off the call and its answer
-- (R10.3); a part for each event that there is
pub record Transfers (s s' : State) (event : Event) : Type 0 where
  pub granted_join : (v p : ℕ) → event ≡ admitted v p → ByJoin s s' v p
  pub granted_leave : (v p : ℕ) → event ≡ released v p → ByLeave s s' v p
  pub creation : (u : ℕ) → event ≡ founded u → ByCreation s s' u
  pub lone_leave : (u : ℕ) → event ≡ emptied u → ByLoneLeave s s' u
  -- any other call, refused ones included: no serial passes
  pub other_call : event ≡ stays → (serial : ℕ) → SameOwner s s' serial

-- ---- calls in turn
-- R7.7: of these calls, made one after the other from h on, each passes on what its event says
abbrev pub InTurn : History → List Call → Type 0
InTurn h [] = Unit {0}
InTurn h (call ∷ calls) = Transfers h.state (advanced h call).state (happened h call) × InTurn (advanced h call) calls

-- R7.7, a drain after these calls: it leads where they lead with its deliveries at their end (as
-- `DrainIsCalls` has it), and each of these in turn passes on what its event says
pub record ByDrain (calls : List Call) (budget : ℕ) : Type 0 where
  pub state : (drain_of (history calls).state budget).state ≡ (history (calls ++ map Deliver (places budget (history calls).state))).state
  pub in_turn : InTurn (history calls) (map Deliver (places budget (history calls).state))

-- ---- after a list of calls
pub record Ownership (calls : List Call) : Type 0 where
  -- R7.5
  pub owned : Owned (history calls).state (owner_of (history calls).state)
  -- R7.6: whatever call comes next
  pub next_call : (call : Call) → Transfers (history calls).state (history (calls ++ call ∷ [])).state (happened (history calls) call)
  -- R7.7: or drain
  pub next_drain : (budget : ℕ) → ByDrain calls budget

-- R7.5, R7.6, R7.7: after any list of calls, refused ones included
abbrev pub OwnershipClaim : Type 0
OwnershipClaim = (calls : List Call) → Ownership calls
