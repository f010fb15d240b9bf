-- No rules stand here: it is what the rules of an order or a delivery look at, as it is read out of
-- a network's arrays. Definitions only.
use Rattle.std.specs.Prelude.{ℕ}
use Rattle.network.specs.declared.Network.{Network}
use Rattle.network.specs.Reads.{node_in, message_in}
use Rattle.access.specs.declared.Spots.{Spots}
use Rattle.access.specs.declared.Sight.{Sight}
use Rattle.access.specs.declared.Arrival.{Arrival}

-- at some spots
abbrev pub sight_of : Network → Spots → Sight
sight_of n spots = record {
  count = n.count;
  waiting = n.waiting;
  node = node_in n spots.node;
  left = node_in n spots.left;
  right = node_in n spots.right;
}

-- the message at a place, and the node that it is for
abbrev pub arrival_of : Network → ℕ → Arrival
arrival_of n place = record { waiting = n.waiting; message = message_in n place; node = node_in n (message_in n place).to }
