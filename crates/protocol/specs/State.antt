-- A network as the lists of its nodes and of its waiting messages (paper 01: a floor), how many
-- deliveries these come to at most, when it is well formed (in shape), and which of its nodes are
-- inserted. The lists may have any length; the limits are clauses of well-formedness. Definitions
-- only.
use Rattle.std.specs.Prelude.{ℕ, ◌+◌, ◌*◌, Bool, true, false, not, ◌&&◌, ◌||◌, List, [], length, get_or, ltb, leb, eqb}
use Rattle.predicates.specs.Tests.{count, any, every, every_below}
use Rattle.sequence.specs.Sequence.{is_seq}
use Rattle.parts.specs.declared.Status.{Status}
use Rattle.parts.specs.declared.Status.TheVariants.{Out, Ins, In, Del}
use Rattle.parts.specs.declared.Message.{Message}
use Rattle.parts.specs.Tests.{Link, is_request, is_ack, is_answer, is_notice, seq_fits, number_fits}
use Rattle.parts.specs.Shape.{message_fits}
use Rattle.node.specs.declared.Node.{Node}
use Rattle.node.specs.Shape.{declared_of, capacity, node_fits}

-- R1.7: a node's number is its place among the nodes, and the messages that wait (R1.10) stand in
-- the order posted
pub record State : Type 0 where
  pub nodes : List Node
  pub messages : List Message

-- R1.8: no nodes, and no messages
abbrev pub empty : State
empty = record { nodes = []; messages = [] }

-- R1.7: the limit of messages; that of nodes is the single step's `capacity`
abbrev pub queue_limit : ℕ
queue_limit = 64

-- R2.5, refusal 5: whether a number names a node
abbrev pub declared : State → ℕ → Bool
declared s u = ltb u (length s.nodes)

-- R1.7: the node of a number; past the last one, a node that is out and has no links
abbrev pub node_at : State → ℕ → Node
node_at s u = get_or s.nodes u (declared_of 0)

-- R1.3: its status, its key and its links
abbrev pub status_at : State → ℕ → Status
status_at s u = (node_at s u).status

abbrev pub key_at : State → ℕ → ℕ
key_at s u = (node_at s u).key

abbrev pub left_at : State → ℕ → Link
left_at s u = (node_at s u).left

abbrev pub right_at : State → ℕ → Link
right_at s u = (node_at s u).right

-- ---- whom a message concerns
-- R4.1 asks for a SetRAck addressed to a node
abbrev pub is_ack_to : ℕ → Message → Bool
is_ack_to u m = is_ack m.kind && eqb m.to u

-- refusal 25 and R10.7 ask for a SetL addressed to a node
abbrev pub is_notice_to : ℕ → Message → Bool
is_notice_to u m = is_notice m.kind && eqb m.to u

-- R2.7, R10.17: an exchange of a node is a SetR from it or an answer to it
abbrev pub is_exchange_of : ℕ → Message → Bool
is_exchange_of u m = (is_request m.kind && eqb m.sender u) || (is_answer m.kind && eqb m.to u)

-- R4.1: a SetRAck to the node waits
abbrev pub ack_waits : State → ℕ → Bool
ack_waits s u = any (is_ack_to u) s.messages

-- R10.7, refusal 25: a SetL to the node waits
abbrev pub notice_waits : State → ℕ → Bool
notice_waits s u = any (is_notice_to u) s.messages

-- ---- how many deliveries the waiting messages come to at most
-- R10.9, R10.16: how many SetR are among messages
abbrev pub requests : List Message → ℕ
requests ms = count (λ m. is_request m.kind) ms

-- R10.9, R8.4: three for each SetR and one for each other message
abbrev pub load : List Message → ℕ
load ms = 3 * requests ms + count (λ m. not (is_request m.kind)) ms

-- ---- well-formedness
-- R2.4: the key of a node is not that of a node before it
abbrev pub key_is_new : State → ℕ → Bool
key_is_new s u = every_below u (λ v. not (eqb (key_at s v) (key_at s u)))

-- R2.7, R10.17: how many exchanges a node of this status may have
abbrev pub exchanges : Status → ℕ
exchanges Out = 0
exchanges Ins = 1
exchanges In = 0
exchanges Del = 1

-- what is asked of one node: R2.4, R2.5, R2.6, that it fits among the nodes declared; R2.4, that
-- its key is its own; R2.7, that it has no more exchanges than its status allows
abbrev pub node_is_well_formed : State → ℕ → Bool
node_is_well_formed s u =
    node_fits (length s.nodes) (node_at s u)
    && (key_is_new s u
    && leb (count (is_exchange_of u) s.messages) (exchanges (status_at s u)))

-- R2.2, the limits; R2.4, R2.5, R2.6, R2.7, each node; R2.5, each message. R2.3 speaks of what lies
-- past the counts, which is no part of these lists. R2.8 is in the fields' type, and stands apart,
-- below. No clause asks for a ring (R2.1).
unfoldable pub well_formed : State → Bool
well_formed s =
    (leb (length s.nodes) capacity && leb (length s.messages) queue_limit)
    && (every_below (length s.nodes) (node_is_well_formed s)
    && every (message_fits (length s.nodes)) s.messages)

-- ---- R2.8: what the fields of nodes and messages can hold
unfoldable pub numbers_fit : State → Bool
numbers_fit s =
    every_below (length s.nodes) (λ u. is_seq (node_at s u).lseq && seq_fits (node_at s u).rseq)
    && every (λ m. number_fits m.kind) s.messages

-- ---- R4.1: who is inserted, by the status and by whether a SetRAck to the node waits
abbrev pub is_inserted : Status → Bool → Bool
is_inserted Out acknowledged = false
is_inserted Ins acknowledged = acknowledged
is_inserted In acknowledged = true
is_inserted Del acknowledged = not acknowledged

unfoldable pub inserted : State → ℕ → Bool
inserted s u = is_inserted (status_at s u) (ack_waits s u)
