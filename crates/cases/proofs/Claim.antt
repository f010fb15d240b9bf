-- Every row of the table holds. All but one compute; the row for every i follows by comparing i
-- with i + 1 and i + 2. Assumes nothing.
use mathlib.Core.Path.{◌≡◌, refl}
use mathlib.Core.Bool.{true, false}
use native.Mathlib.Omega.{arith}
use borrow.Author.Tests.{lt-ltb, le-ltb}
use Rattle.interval.specs.Interval.{between}
use Rattle.sequence.specs.Sequence.{Number, first_seq, last_seq, next_seq, newer, has_next, capped_next}
use Rattle.parts.specs.Shape.{message_fits}
use Rattle.node.specs.Shape.{node_fits, well_formed, deliverable}
use Rattle.node.specs.declared.Outcome.TheVariants.{LeftOld}
use Rattle.node.specs.Actions.{set_l, quiet, grants, leave_of, receive_of}
use Rattle.cases.specs.Table.{AllHold, table, node0}

newer-by-two : (i : Number) → newer (next_seq (next_seq i)) i ≡ true
unfolding newer next_seq
newer-by-two i = lt-ltb i _ (omega arith)

older_by_one : (i : Number) → newer (next_seq i) (next_seq (next_seq i)) ≡ false
unfolding newer next_seq
older_by_one i = le-ltb (next_seq (next_seq i)) (next_seq i) (omega arith)

-- 004 Fig. 3: two notices in reverse order
late-notice : (i : Number) → receive_of 0 (receive_of 0 (node0 1 2 i 0) (set_l 4 0 4 (next_seq (next_seq i)))).node (set_l 3 0 3 (next_seq i)) ≡ quiet (node0 4 2 (next_seq (next_seq i)) 0) LeftOld
unfolding node_fits message_fits well_formed deliverable receive_of
late-notice i = simp (newer-by-two i, older_by_one i)

pub claim : AllHold table
unfolding between first_seq last_seq next_seq newer has_next capped_next node_fits message_fits well_formed deliverable grants leave_of receive_of
claim =
    (refl, (refl, (refl, (refl, (refl, (refl, (refl, (refl, (refl, (refl, (refl, (refl, (late-notice, (refl, (refl, (refl, (refl, (refl, (refl, tt)))))))))))))))))))
