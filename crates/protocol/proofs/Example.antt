-- The definitions run on paper 01's example script: each call is answered as it must be, and
-- afterwards both nodes are inserted, told so and by the definition, and link to each other both
-- ways, with nothing waiting. A longer list has granted leaves, refusal 25 and a second join, and
-- another a join that is denied by a node which has gone out. So the claim is not about networks in
-- which nothing happens. Each line computes. Assumes nothing.
use Rattle.std.specs.Prelude.{Some}
use mathlib.Core.Path.{◌≡◌, refl}
use mathlib.Core.Bool.{true, false}
use mathlib.Core.List.{[], ◌∷◌}
use Rattle.interval.specs.Interval.{between}
use Rattle.sequence.specs.Sequence.{first_seq, last_seq, next_seq, newer, has_next, capped_next}
use Rattle.links.specs.Walk.{walk, falls}
use Rattle.parts.specs.Shape.{message_fits}
use Rattle.node.specs.Shape.{node_fits, well_formed as node_is_sound, deliverable, peer_fits}
use Rattle.node.specs.Actions.{set_r, set_r_ack, set_l, create_of, join_of, leave_of, grants, receive_of}
use Rattle.protocol.specs.State.{empty, key_at, left_at, right_at, well_formed, inserted}
use Rattle.protocol.specs.Calls.{apply_of}
use Rattle.protocol.specs.History.{history}
use Rattle.protocol.specs.Example.{answers, script, printed, late_notice, late_notice_said, gone_neighbour, gone_neighbour_said}

-- ---- paper 01's script; node 2 was never declared
pub record AfterScript : Type 0 where
  pub said : answers empty script ≡ printed
  pub told : (history script).told 0 ∷ (history script).told 1 ∷ (history script).told 2 ∷ [] ≡ true ∷ true ∷ false ∷ []
  pub are_inserted : inserted (history script).state 0 ∷ inserted (history script).state 1 ∷ inserted (history script).state 2 ∷ [] ≡ true ∷ true ∷ false ∷ []
  pub left : left_at (history script).state 0 ∷ left_at (history script).state 1 ∷ [] ≡ Some 1 ∷ Some 0 ∷ []
  pub round : walk (right_at (history script).state) 0 3 ≡ 0 ∷ 1 ∷ 0 ∷ []
  pub one_fall : falls (key_at (history script).state) (right_at (history script).state) (0 ∷ 1 ∷ []) ≡ 1
  pub nothing_waits : (history script).state.messages ≡ []

pub after-script : AfterScript
unfolding apply_of well_formed inserted between first_seq last_seq next_seq newer has_next capped_next node_fits message_fits node_is_sound deliverable peer_fits create_of join_of leave_of grants receive_of
after-script = record { said = refl; told = refl; are_inserted = refl; left = refl; round = refl; one_fall = refl; nothing_waits = refl }

-- ---- the longer list; the second join of 1 carries its left number, 2
pub record AfterLateNotice : Type 0 where
  pub said : answers empty late_notice ≡ late_notice_said
  pub told : (history late_notice).told 0 ∷ (history late_notice).told 1 ∷ (history late_notice).told 2 ∷ [] ≡ true ∷ false ∷ false ∷ []
  pub second_join : (history late_notice).state.messages ≡ set_l 0 0 1 1 ∷ set_l 0 0 0 2 ∷ set_r 1 0 1 0 2 ∷ []

pub after_late_notice : AfterLateNotice
unfolding apply_of well_formed inserted between first_seq last_seq next_seq newer has_next capped_next node_fits message_fits node_is_sound deliverable peer_fits create_of join_of leave_of grants receive_of
after_late_notice = record { said = refl; told = refl; second_join = refl }

-- ---- a join beside a node that has gone out; of eleven messages three were posted for each of
-- three grants and two for the denial, and no request waits
pub record AfterGoneNeighbour : Type 0 where
  pub said : answers empty gone_neighbour ≡ gone_neighbour_said
  pub are_inserted : inserted (history gone_neighbour).state 0 ∷ inserted (history gone_neighbour).state 1 ∷ inserted (history gone_neighbour).state 2 ∷ [] ≡ true ∷ false ∷ true ∷ []
  pub counted : (history gone_neighbour).posts ∷ (history gone_neighbour).grants ∷ (history gone_neighbour).denials ∷ [] ≡ 11 ∷ 3 ∷ 1 ∷ []
  pub wait : (history gone_neighbour).state.messages ≡ set_l 0 0 0 2 ∷ set_l 0 0 2 3 ∷ set_r_ack 0 2 3 ∷ []

pub after_gone_neighbour : AfterGoneNeighbour
unfolding apply_of well_formed inserted between first_seq last_seq next_seq newer has_next capped_next node_fits message_fits node_is_sound deliverable peer_fits create_of join_of leave_of grants receive_of
after_gone_neighbour = record { said = refl; are_inserted = refl; counted = refl; wait = refl }
