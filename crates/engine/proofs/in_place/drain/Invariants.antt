-- `engine::in_place::drain` meets its contract: after each turn the drain is underway (`DrainLaws`),
-- and where nothing waits, or the budget is spent, it is finished. The measure is what is left of
-- what the budget allows. Assumes nothing.
use Prim.Native.Nat.{◌-◌}
use Rattle.protocol.specs.Drain.{allowed}
use Rattle.network.specs.Arrays.{live}
use Rattle.engine.proofs.DrainLaws.{Underway}
use Rattle.engine.proofs.in_place.drain.Given as goal

abbrev pub invariant-loop-network : goal.invariant-loop-network
invariant-loop-network l = Underway l.fn.network l.budget l.network l.tally.made l.tally.posted

abbrev pub decreases-loop-network : goal.decreases-loop-network
decreases-loop-network l = allowed l.budget (live l.fn.network) - l.tally.made
