-- R9.10, the example of paper 01 as a whole: the printout of its script's bytes is the one that it
-- prints; and R8.4, R8.5, what PK and RD with budget 0 print where a request waits. It computes.
-- Assumes nothing.
use mathlib.Core.Path.{◌≡◌, refl}
use Rattle.interval.specs.Interval.{between, within}
use Rattle.sequence.specs.Sequence.{first_seq, last_seq, next_seq, newer, has_next, capped_next}
use Rattle.parts.specs.Shape.{message_fits}
use Rattle.node.specs.Shape.{node_fits, well_formed as node_is_well_formed, deliverable, peer_fits}
use Rattle.node.specs.Actions.{create_of, join_of, leave_of, grants, receive_of}
use Rattle.protocol.specs.State.{well_formed, inserted}
use Rattle.protocol.specs.Calls.{apply_of}
use Rattle.protocol.specs.Questions.{peek_of, owner_of}
use Rattle.script.specs.Script.{read_at}
use Rattle.script.proofs.Examples.{paper_script}
use mathlib.Core.List.{List, [], ◌∷◌}
use Prim.Native.Nat.{ℕ}
use Rattle.protocol.specs.Drain.{drain_of}
use Rattle.text.specs.Text.{ascii, decimal}
use Rattle.printout.specs.Lines.{line_of, last_line}
use Rattle.printout.proofs.Example.{paper_printout}
use Rattle.course.specs.Execution.{execute_of}
use Rattle.course.specs.Run.{printout_of}

pub paper_printed : printout_of paper_script ≡ paper_printout
unfolding printout_of read_at execute_of apply_of owner_of well_formed inserted between within first_seq last_seq next_seq newer has_next capped_next node_fits message_fits node_is_well_formed deliverable peer_fits create_of join_of leave_of grants receive_of decimal line_of last_line
paper_printed = refl

abbrev quiet_script : List ℕ
quiet_script =
    0x42 ∷ 0x43 ∷ 0x00 ∷ 0x00 ∷ 0x10 ∷ 0x00
    ∷ 0x42 ∷ 0x43 ∷ 0x00 ∷ 0x00 ∷ 0x20 ∷ 0x00
    ∷ 0x43 ∷ 0x52 ∷ 0x00
    ∷ 0x4a ∷ 0x4e ∷ 0x01 ∷ 0x00 ∷ 0x00
    ∷ 0x50 ∷ 0x4b
    ∷ 0x52 ∷ 0x44 ∷ 0x00 ∷ 0x00
    ∷ 0x50 ∷ 0x4b
    ∷ []

quiet_printed : printout_of quiet_script ≡ ascii "ring 1\n1 bench 0 key 1000\n2 bench 1 key 2000\n3 created\n4 waiting\n5 ran 0 left 1\n6 ran 3 left 0\n7 ran 0 left 0\nend 0 posted 3\n"
unfolding printout_of read_at execute_of apply_of drain_of peek_of owner_of well_formed inserted between within first_seq last_seq next_seq newer has_next capped_next node_fits message_fits node_is_well_formed deliverable peer_fits create_of join_of leave_of grants receive_of decimal line_of last_line
quiet_printed = refl
