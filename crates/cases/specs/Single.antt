-- R1.4, R5.1, R5.2, R5.4, R5.5, R5.9, R5.10, R5.11, R5.13, R5.14, R6.4, R6.12: rows of our own
-- beside the marked ones, of what a single node's step does and refuses. Most of them no script can
-- show, since a network is well formed and hands in its own nodes and keys. `proofs/Single.antt`
-- proves the whole table. Definitions only.
use Rattle.std.specs.Prelude.{List, [], ◌∷◌, ℕ, Some, None}
use Rattle.refusal.specs.Code.{plain}
use Rattle.sequence.specs.Sequence.{Number}
use Rattle.parts.specs.declared.Status.{Status}
use Rattle.parts.specs.declared.Status.TheVariants.{Out, Ins, In, Del}
use Rattle.node.specs.declared.Node.{Node}
use Rattle.node.specs.declared.Peer.{Peer}
use Rattle.node.specs.declared.Outcome.TheVariants.{Created, Waiting, Joined, Gone, JoinDenied, LeaveDenied, Dropped, Denied}
use Rattle.node.specs.Shape.{declared_of}
use Rattle.node.specs.Actions.{set_r, set_r_ack, set_r_nak, set_l, refused, quiet, posting, create_of, join_of, leave_of, receive_of}
use Rattle.cases.specs.Table.{Case, ◌is◌}

-- node 0 with the key 1,000, links to 1 and 2, left number 5 and right number 7, in a status
abbrev pub linked : Status → Node
linked status = record { status = status; key = 1_000; left = Some 1; right = Some 2; lseq = 5; rseq = Some 7 }

-- the same with another right number
abbrev pub numbered : Status → Number → Node
numbered status rseq = record { status = status; key = 1_000; left = Some 1; right = Some 2; lseq = 5; rseq = Some rseq }

abbrev pub peer : ℕ → ℕ → Peer
peer number key = record { number = number; key = key }

-- a node of another network, which has 33 nodes or more; one that is ins and lacks a link; and one
-- that is in and lacks its right number
abbrev pub linked_far : Node
linked_far = record { status = In; key = 1_000; left = Some 1; right = Some 32; lseq = 5; rseq = Some 7 }

abbrev pub half_linked : Node
half_linked = record { status = Ins; key = 1_000; left = Some 1; right = None; lseq = 5; rseq = Some 7 }

abbrev pub unnumbered : Node
unnumbered = record { status = In; key = 1_000; left = Some 1; right = Some 2; lseq = 5; rseq = None }

abbrev pub single : List Case
single =
    -- R1.4: out, with its key, without links and without a right number
    (declared_of 1_000 is record { status = Out; key = 1_000; left = None; right = None; lseq = 0; rseq = None })
    -- R5.1: both links name the node, both numbers are the first; refusal 23 unless it is out
    ∷ (create_of 0 (linked Out) is quiet (record { status = In; key = 1_000; left = Some 0; right = Some 0; lseq = 0; rseq = Some 0 }) Created)
    ∷ (create_of 0 (linked Ins) is refused (linked Ins) (plain 23))
    -- R5.2, R1.5: a second join sends the left number, and keeps the right one; refusals 23 and 24,
    -- and 23 where both hold
    ∷ (join_of 0 (linked Out) (peer 3 500) (peer 4 2_000)
    is posting (record { status = Ins; key = 1_000; left = Some 3; right = Some 4; lseq = 5; rseq = Some 7 }) (set_r 0 3 0 4 5) Waiting)
    ∷ (join_of 0 (linked In) (peer 3 500) (peer 4 2_000) is refused (linked In) (plain 23))
    ∷ (join_of 0 (linked Out) (peer 3 1_500) (peer 4 2_000) is refused (linked Out) (plain 24))
    ∷ (join_of 0 (linked Del) (peer 3 1_500) (peer 4 2_000) is refused (linked Del) (plain 23))
    -- R5.4: the request has the next number; refusal 26 unless it is in, 27 at the last number
    ∷ (leave_of 0 (linked In) is posting (linked Del) (set_r 0 1 2 0 8) Waiting)
    ∷ (leave_of 0 (linked Out) is refused (linked Out) (plain 26))
    ∷ (leave_of 0 (numbered In 65_535) is refused (numbered In 65_535) (plain 27))
    ∷ (leave_of 0 (numbered Del 65_535) is refused (numbered Del 65_535) (plain 26))
    -- R5.5, R5.9: a node that is not in denies, and so does one whose right link is another
    ∷ (receive_of 0 (linked Del) (set_r 3 0 3 2 9) is posting (linked Del) (set_r_nak 0 3) Denied)
    ∷ (receive_of 0 (linked In) (set_r 3 0 3 1 9) is posting (linked In) (set_r_nak 0 3) Denied)
    -- R5.10, R5.11: answers at ins and del
    ∷ (receive_of 0 (linked Ins) (set_r_ack 1 0 9) is quiet (numbered In 9) Joined)
    ∷ (receive_of 0 (linked Del) (set_r_ack 1 0 9) is quiet (linked Out) Gone)
    ∷ (receive_of 0 (linked Ins) (set_r_nak 1 0) is quiet (linked Out) JoinDenied)
    ∷ (receive_of 0 (linked Del) (set_r_nak 1 0) is quiet (linked In) LeaveDenied)
    -- R5.14: and at a node that is in; R5.13: each kind at a node that is out, and two SetR, of a
    -- join and of a leave, which it would grant if it were in
    ∷ (receive_of 0 (linked In) (set_r_ack 1 0 9) is quiet (linked In) Dropped)
    ∷ (receive_of 0 (linked In) (set_r_nak 1 0) is quiet (linked In) Dropped)
    ∷ (receive_of 0 (linked Out) (set_r_ack 1 0 9) is quiet (linked Out) Dropped)
    ∷ (receive_of 0 (linked Out) (set_r_nak 1 0) is quiet (linked Out) Dropped)
    ∷ (receive_of 0 (linked Out) (set_l 1 0 3 9) is quiet (linked Out) Dropped)
    ∷ (receive_of 0 (linked Out) (set_r 3 0 3 2 9) is posting (linked Out) (set_r_nak 0 3) Denied)
    ∷ (receive_of 0 (linked Out) (set_r 2 0 4 2 9) is posting (linked Out) (set_r_nak 0 2) Denied)
    -- R6.12: the own number, the key, the links, the right number; a message for another, or that
    -- names node 32; a neighbour
    ∷ (create_of 32 (linked Out) is refused (linked Out) (plain 6))
    ∷ (create_of 0 (declared_of 100_000_000) is refused (declared_of 100_000_000) (plain 6))
    ∷ (leave_of 0 linked_far is refused linked_far (plain 6))
    ∷ (receive_of 0 half_linked (set_r_nak 1 0) is refused half_linked (plain 6))
    ∷ (leave_of 0 unnumbered is refused unnumbered (plain 6))
    ∷ (receive_of 0 (linked Ins) (set_r_ack 1 3 9) is refused (linked Ins) (plain 6))
    ∷ (receive_of 0 (linked In) (set_l 1 0 32 9) is refused (linked In) (plain 6))
    ∷ (join_of 0 (linked Out) (peer 32 500) (peer 4 2_000) is refused (linked Out) (plain 6))
    ∷ (join_of 0 (linked Out) (peer 3 500) (peer 4 100_000_000) is refused (linked Out) (plain 6))
    ∷ []
