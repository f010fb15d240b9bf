-- `network::shape::exchanges_of` meets its contract: what the messages passed come to is counted.
-- Assumes nothing.
use mathlib.Core.Path.{◌≡◌}
use lib.ListN.{length}
use Rattle.network.proofs.Exchanges.{Counted}
use Rattle.network.proofs.shape.exchanges_of.Given as goal

abbrev pub invariant-loop-message : goal.invariant-loop-message
invariant-loop-message l = (length l.exchanges ≡ 32) × Counted l.messages l.message-index l.exchanges
