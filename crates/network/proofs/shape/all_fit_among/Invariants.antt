-- `network::shape::all_fit_among` meets its contract: the nodes passed are each alone with their key,
-- and have no more exchanges than they may have. Assumes nothing.
use mathlib.Core.Path.{◌≡◌}
use mathlib.Core.Bool.{true}
use Rattle.predicates.specs.Tests.{every_below}
use Rattle.network.specs.Walks.{fits_beside}
use Rattle.network.proofs.shape.all_fit_among.Given as goal

abbrev pub invariant-loop-number : goal.invariant-loop-number
invariant-loop-number l = every_below l.number (fits_beside (record { nodes = l.nodes; messages = l.messages })) ≡ true
