-- Who owns which serial after each call of the list in `specs/OwnershipExample.antt`: each kind of
-- event comes up, with a call that is refused and deliveries that let nobody in or out. Each line
-- computes. Assumes nothing.
use mathlib.Core.Path.{◌≡◌, refl}
use mathlib.Core.List.{[], ◌∷◌}
use Rattle.interval.specs.Interval.{between, within}
use Rattle.sequence.specs.Sequence.{first_seq, last_seq, next_seq, newer, has_next, capped_next}
use Rattle.parts.specs.Shape.{message_fits}
use Rattle.node.specs.Shape.{node_fits, well_formed as node_is_sound, deliverable, peer_fits}
use Rattle.node.specs.Actions.{create_of, join_of, leave_of, grants, receive_of}
use Rattle.protocol.specs.State.{empty, well_formed, inserted}
use Rattle.protocol.specs.Calls.{apply_of}
use Rattle.protocol.specs.Events.{stays, founded, admitted, released, emptied}
use Rattle.protocol.specs.History.{start}
use Rattle.protocol.specs.Questions.{owner_of}
use Rattle.protocol.specs.OwnershipExample.{rows_of, table, handing_over}
use Rattle.protocol.proofs.EventExample.{events_of}

pub record HandingOver : Type 0 where
  pub rows : rows_of empty handing_over ≡ table
  pub events : events_of start handing_over
      ≡ stays ∷ stays ∷ stays ∷ founded 0 ∷ stays ∷ admitted 2 0 ∷ stays ∷ stays ∷ stays ∷ admitted 1 0 ∷ stays ∷ stays ∷ stays ∷ stays ∷ released 2 1
      ∷ stays ∷ stays ∷ stays ∷ released 0 1 ∷ stays ∷ stays ∷ emptied 1 ∷ []

pub handed_over : HandingOver
unfolding apply_of owner_of well_formed inserted between within first_seq last_seq next_seq newer has_next capped_next node_fits message_fits node_is_sound deliverable peer_fits create_of join_of leave_of grants receive_of
handed_over = record { rows = refl; events = refl }
