-- No rules stand here: it is what stands in a place of a network's arrays, for every number.
-- Definitions only.
use Rattle.std.specs.Prelude.{ℕ, ◌%◌, get_or}
use Rattle.parts.specs.declared.Message.{Message}
use Rattle.node.specs.declared.Node.{Node}
use Rattle.node.specs.Shape.{capacity}
use Rattle.protocol.specs.State.{queue_limit}
use Rattle.network.specs.declared.Network.{Network}
use Rattle.network.specs.Arrays.{vacant_node, vacant_message}

-- a number past an array counts from its beginning again
abbrev pub node_in : Network → ℕ → Node
node_in n u = get_or n.nodes (u % capacity) vacant_node

abbrev pub message_in : Network → ℕ → Message
message_in n place = get_or n.messages (place % queue_limit) vacant_message
