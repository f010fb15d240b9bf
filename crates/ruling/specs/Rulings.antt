-- No rules stand here: it is what the code decides of a call on a network, from what the call looks
-- at there. Definitions only.
use Rattle.protocol.specs.declared.Call.{Call}
use Rattle.protocol.specs.declared.Call.TheVariants.{Order, Deliver}
use Rattle.network.specs.declared.Network.{Network}
use Rattle.access.specs.Sights.{sight_of, arrival_of}
use Rattle.searches.specs.Searches.{found_of}
use Rattle.decision.specs.Decided.{Decided, spots_of}
use Rattle.rules.specs.Decisions.{order_decision, delivery_decision}

unfoldable pub decision_on : Network → Call → Decided
decision_on n (Order order) = order_decision order (sight_of n (spots_of order)) (found_of n order)
decision_on n (Deliver place) = delivery_decision place (arrival_of n place)
