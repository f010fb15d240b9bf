-- Who owns which serial on the arrays of a network that calls by value make, and which serials the
-- next call or drain passes on: the arrays hold the lists that the same calls make, the question
-- for an owner says of them what it says of the lists, and what a call or a drain leaves holds the
-- lists that it leaves there. Assumes nothing.
use mathlib.Core.Path.{◌≡◌, sym, ap, subst, ◌∙◌}
use mathlib.Core.Bool.{true}
use mathlib.Core.List.{List, ◌++◌, map}
use Prim.Native.Nat.{ℕ}
use Rattle.predicates.proofs.TestLaws.{is_true}
use Rattle.protocol.specs.declared.Call.{Call}
use Rattle.protocol.specs.declared.Call.TheVariants.{Deliver}
use Rattle.protocol.specs.State.{State, well_formed}
use Rattle.protocol.specs.Calls.{apply_of as apply_to_lists}
use Rattle.protocol.specs.History.{History, history}
use Rattle.protocol.specs.Drain.{places}
use Rattle.protocol.specs.Ownership.{Owned, Transfers}
use Rattle.protocol.proofs.Theorem.{ring}
use Rattle.protocol.proofs.Ownership.{asked_alike, transferred, turns, ownership}
use Rattle.network.specs.declared.Network.{Network}
use Rattle.network.specs.Arrays.{live, empty}
use Rattle.network.proofs.ArrayLaws.{live-held}
use Rattle.engine.specs.Outcomes.{apply_of, drain_of, run}
use Rattle.engine.specs.Answers.{owner_of}
use Rattle.engine.specs.Ownership.{happened_on, ArrayDrain, ArrayOwnershipClaim}
use Rattle.engine.proofs.RunLaws.{apply_held, run-empty, run-live, run-says, run-drain}
use Rattle.engine.proofs.RingLaws.{run_owner}

module _ (calls : List Call) where
  abbrev n : Network
  n = run empty calls

  abbrev h : History
  h = history calls

  owned : Owned (live n) (owner_of n)
  owned = subst (λ (s : State). Owned s (owner_of n)) (sym (run-live calls)) (asked_alike (run_owner calls) (ownership calls).owned)

  next_call : (call : Call) → Transfers (live n) (live (apply_of n call).network) (happened_on n h.joins call)
  next_call call =
      let fits : well_formed h.state ≡ true = is_true _ (ring calls).well_formed in
      rw (run-empty calls, apply_held h.state call fits, live-held h.state, live-held (apply_to_lists h.state call).state) (transferred calls call)

  next_drain : (budget : ℕ) → ArrayDrain calls budget
  next_drain budget =
      let deliveries = map Deliver (places budget h.state) in
      let leads : live (drain_of n budget).network ≡ (history (calls ++ deliveries)).state = ap live (run-drain calls budget) ∙ run-live (calls ++ deliveries) in
      let lists = run-live calls in
      record { lists = rw lists leads; in_turn = rw lists (turns calls deliveries) }

pub array_ownership : ArrayOwnershipClaim
array_ownership calls = record {
  lists = run-live calls;
  said = run-says calls;
  owned = owned calls;
  next_call = next_call calls;
  next_drain = next_drain calls;
}
