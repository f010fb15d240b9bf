-- The events of the lists of calls in `specs/Example.antt`, and the order that they make: each kind
-- of event comes up. Each line computes. Assumes nothing.
use mathlib.Core.Path.{◌≡◌, refl}
use mathlib.Core.List.{List, [], ◌∷◌}
use Prim.Native.Nat.{ℕ}
use lib.ListN.{take}
use Rattle.interval.specs.Interval.{between}
use Rattle.sequence.specs.Sequence.{first_seq, last_seq, next_seq, newer, has_next, capped_next}
use Rattle.parts.specs.Shape.{message_fits}
use Rattle.node.specs.Shape.{node_fits, well_formed as node_is_sound, deliverable, peer_fits}
use Rattle.node.specs.Actions.{create_of, join_of, leave_of, grants, receive_of}
use Rattle.protocol.specs.declared.Call.{Call}
use Rattle.protocol.specs.declared.Order.TheVariants.{Declare, Create, Leave}
use Rattle.protocol.specs.declared.Call.TheVariants.{Order}
use Rattle.protocol.specs.State.{key_at, well_formed, inserted}
use Rattle.protocol.specs.Calls.{apply_of}
use Rattle.protocol.specs.Events.{Event, stays, founded, admitted, released, emptied}
use Rattle.protocol.specs.History.{History, start, happened, advanced}
use Rattle.protocol.specs.EventClaim.{order_after}
use Rattle.protocol.specs.Example.{late_notice}

-- the events of calls, one after the other
abbrev pub events_of : History → List Call → List Event
events_of h [] = []
events_of h (call ∷ calls) = happened h call ∷ events_of (advanced h call) calls

-- the order that they make of L
abbrev pub order_of : History → List ℕ → List Call → List ℕ
order_of h L [] = L
order_of h L (call ∷ calls) = order_of (advanced h call) (order_after (key_at h.state) L (happened h call)) calls

-- 1 is let in after 0, and 2 between them; both go again
pub record LateNoticeEvents : Type 0 where
  pub events : events_of start (take 17 late_notice)
      ≡ stays ∷ stays ∷ stays ∷ founded 0 ∷ stays ∷ admitted 1 0 ∷ stays ∷ stays ∷ admitted 2 0 ∷ stays ∷ stays ∷ released 2 0 ∷ stays ∷ stays ∷ stays ∷ released 1 0 ∷ stays ∷ []
  pub three : order_of start [] (take 9 late_notice) ≡ 0 ∷ 2 ∷ 1 ∷ []
  pub one : order_of start [] (take 17 late_notice) ≡ 0 ∷ []

pub late_notice_events : LateNoticeEvents
unfolding apply_of well_formed inserted between first_seq last_seq next_seq newer has_next capped_next node_fits message_fits node_is_sound deliverable peer_fits create_of join_of leave_of grants receive_of
late_notice_events = record { events = refl; three = refl; one = refl }

-- one node founds a ring and empties it; a second creation before that is refused
pub alone-events : events_of start (Order (Declare 5) ∷ Order (Create 0) ∷ Order (Create 0) ∷ Order (Leave 0) ∷ []) ≡ stays ∷ founded 0 ∷ stays ∷ emptied 0 ∷ []
unfolding apply_of well_formed inserted between first_seq last_seq next_seq newer has_next capped_next node_fits message_fits node_is_sound deliverable peer_fits create_of join_of leave_of grants receive_of
alone-events = refl
