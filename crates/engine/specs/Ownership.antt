-- R7.5, R7.6, R7.7, 02 (iv), of the arrays: who owns which serial after any list of calls from the
-- empty network, as the function `owner` names it, and which serials the next call or drain passes
-- on. It is stated in full, and cites no proof. Definitions only.
use Rattle.std.specs.Prelude.{ℕ, ◌≡◌, Bool}
use mathlib.Core.List.{List, ◌++◌, map}
use Rattle.protocol.specs.declared.Call.{Call}
use Rattle.protocol.specs.declared.Call.TheVariants.{Deliver}
use Rattle.protocol.specs.Calls.{apply_of as apply_to_lists}
use Rattle.protocol.specs.Events.{Event, event_of}
use Rattle.protocol.specs.History.{history}
use Rattle.protocol.specs.Drain.{places}
use Rattle.protocol.specs.Ownership.{Owned, Transfers, InTurn}
use Rattle.network.specs.declared.Network.{Network}
use Rattle.network.specs.Arrays.{live, empty}
use Rattle.engine.specs.Outcomes.{apply_of, drain_of, run}
use Rattle.engine.specs.Answers.{owner_of}

-- R10.3: what a call by value did, by its answer; `joins` says of whom the last join or leave that
-- was not refused was a join
abbrev pub happened_on : Network → (ℕ → Bool) → Call → Event
happened_on n joins call = event_of (live n) joins call (apply_of n call).said

-- R7.7: the deliveries of a drain of the network that these calls make
abbrev pub deliveries : List Call → ℕ → List Call
deliveries calls budget = map Deliver (places budget (live (run empty calls)))

-- R7.7: it leads where these lead as calls, and each in turn passes on what its event says
pub record ArrayDrain (calls : List Call) (budget : ℕ) : Type 0 where
  pub lists : live (drain_of (run empty calls) budget).network ≡ (history (calls ++ deliveries calls budget)).state
  pub in_turn : InTurn (history calls) (deliveries calls budget)

pub record ArrayOwnership (calls : List Call) : Type 0 where
  -- R10.1: the arrays hold the lists that the calls lead to, and a call is answered as it is there
  pub lists : live (run empty calls) ≡ (history calls).state
  pub said : (call : Call) → (apply_of (run empty calls) call).said ≡ (apply_to_lists (history calls).state call).said
  -- R7.5: as `owner` is answered
  pub owned : Owned (live (run empty calls)) (owner_of (run empty calls))
  -- R7.6: whatever call comes next
  pub next_call : (call : Call) → Transfers (live (run empty calls)) (live (apply_of (run empty calls) call).network) (happened_on (run empty calls) (history calls).joins call)
  -- R7.7: or drain
  pub next_drain : (budget : ℕ) → ArrayDrain calls budget

-- R7.5, R7.6, R7.7: after any list of calls on the arrays, refused ones included
abbrev pub ArrayOwnershipClaim : Type 0
ArrayOwnershipClaim = (calls : List Call) → ArrayOwnership calls
