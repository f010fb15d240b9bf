-- A network in fixed arrays: which lists its arrays hold, when it is well formed, and the arrays
-- that hold given lists. What is asked of the lists is well-formedness as the crate `protocol` has
-- it. Definitions only.
use Rattle.std.specs.Prelude.{ℕ, ◌-◌, Bool, not, ◌&&◌, List, ◌++◌, length, take, drop, replicate, leb, eqb}
use Rattle.predicates.specs.Tests.{every}
use Rattle.sequence.specs.Sequence.{first_seq, same}
use Rattle.parts.specs.declared.Message.{Message}
use Rattle.parts.specs.Tests.{is_out, linked, numbered, is_nak}
use Rattle.node.specs.declared.Node.{Node}
use Rattle.node.specs.Shape.{declared_of, capacity}
use Rattle.node.specs.Actions.{set_r_nak}
use Rattle.protocol.specs.State.{State, queue_limit, empty as empty_lists, well_formed as lists_are_well_formed}
use Rattle.network.specs.declared.Network.{Network}

-- ---- R2.3: what a vacant place holds (paper 01: the blank)
-- R2.3: a node as it begins (R1.4), with the key 0
abbrev pub vacant_node : Node
vacant_node = declared_of 0

-- R2.3: a SetRNak from node 0 to node 0
abbrev pub vacant_message : Message
vacant_message = set_r_nak 0 0

-- R2.3: whether a node is the vacant one, field by field
abbrev pub is_vacant_node : Node → Bool
is_vacant_node u =
    is_out u.status
    && (eqb u.key 0
    && ((not (linked u.left) && not (linked u.right))
    && (same u.lseq first_seq && not (numbered u.rseq))))

-- R2.3: whether a message is the vacant one, field by field
abbrev pub is_vacant_message : Message → Bool
is_vacant_message m = eqb m.sender 0 && (eqb m.to 0 && is_nak m.kind)

-- ---- the lists that the arrays hold
-- R1.7: the nodes and the messages before the counts
abbrev pub live : Network → State
live n = record { nodes = take n.count n.nodes; messages = take n.waiting n.messages }

-- R2.2, the counts; R2.3, the places past them; the other clauses are said of the lists
unfoldable pub well_formed : Network → Bool
well_formed n =
    (leb n.count capacity && leb n.waiting queue_limit)
    && ((every is_vacant_node (drop n.count n.nodes) && every is_vacant_message (drop n.waiting n.messages))
    && lists_are_well_formed (live n))

-- ---- the arrays that hold given lists
-- R2.3: l, then what is vacant in each place up to n
abbrev pub filled : {A : Type 0} → ℕ → A → List A → List A
filled n vacant l = l ++ replicate (n - length l) vacant

-- R1.7: 32 places for nodes and 64 for messages
abbrev pub held : State → Network
held s = record {
  nodes = filled capacity vacant_node s.nodes;
  count = length s.nodes;
  messages = filled queue_limit vacant_message s.messages;
  waiting = length s.messages;
}

-- R1.8: no nodes, and no messages
abbrev pub empty : Network
empty = held empty_lists
