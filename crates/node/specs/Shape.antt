-- The record of a node just declared, and when a node, a message or a neighbour handed in to a
-- single step is well formed (paper 01: in shape). Refusal 6 is given exactly where it is not.
-- Definitions only.
use Rattle.std.specs.Prelude.{ℕ, Bool, ◌&&◌, ltb, eqb, None}
use Rattle.serial.specs.Serial.{in_range}
use Rattle.parts.specs.declared.Status.TheVariants.{Out}
use Rattle.parts.specs.declared.Message.{Message}
use Rattle.node.specs.declared.Node.{Node}
use Rattle.node.specs.declared.Peer.{Peer}
use Rattle.sequence.specs.Sequence.{first_seq}
use Rattle.parts.specs.Shape.{links_fit, message_fits}

-- R1.4: how a node begins
abbrev pub declared_of : ℕ → Node
declared_of key = record { status = Out; key = key; left = None; right = None; lseq = first_seq; rseq = None }

-- ---- well-formedness among the first `count` nodes
-- R2.4, R2.5, R2.6: its key, its links and its right number
unfoldable pub node_fits : ℕ → Node → Bool
node_fits count u = in_range u.key && links_fit count u.status u.left u.right u.rseq

-- ---- R6.12: what is handed in to a single step, which knows no count but the limit (R1.7)
abbrev pub capacity : ℕ
capacity = 32

-- R6.12: the node, with its own number; R2.8 is in the fields' type
unfoldable pub well_formed : ℕ → Node → Bool
well_formed me u = ltb me capacity && node_fits capacity u

-- R6.12: a message, which must be for this node
unfoldable pub deliverable : ℕ → Message → Bool
deliverable me m = eqb m.to me && message_fits capacity m

-- R6.12: a neighbour
unfoldable pub peer_fits : Peer → Bool
peer_fits p = ltb p.number capacity && in_range p.key
