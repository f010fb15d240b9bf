-- Every row of our own holds: each computes. Assumes nothing.
use mathlib.Core.Path.{refl}
use Rattle.interval.specs.Interval.{between}
use Rattle.sequence.specs.Sequence.{first_seq, last_seq, next_seq, newer, has_next, capped_next}
use Rattle.parts.specs.Shape.{message_fits}
use Rattle.node.specs.Shape.{node_fits, well_formed, deliverable, peer_fits}
use Rattle.node.specs.Actions.{grants, create_of, join_of, leave_of, receive_of}
use Rattle.cases.specs.Table.{AllHold}
use Rattle.cases.specs.Single.{single}

pub holds : AllHold single
unfolding between first_seq last_seq next_seq newer has_next capped_next node_fits message_fits well_formed deliverable peer_fits grants create_of join_of leave_of receive_of
holds = (refl, (refl, (refl, (refl, (refl, (refl, (refl, (refl, (refl, (refl, (refl, (refl, (refl, (refl, (refl, (refl, (refl, (refl, (refl, (refl, (refl, (refl, (refl, (refl, (refl, (refl, (refl, (refl, (refl, (refl, (refl, (refl, (refl, tt)))))))))))))))))))))))))))))))))
