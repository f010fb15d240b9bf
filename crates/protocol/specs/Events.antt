-- What a call did to the ring, read off the call and its answer: one event, and who is told
-- inserted after it. No node is looked at, and of a message only whose it is and for whom.
-- Definitions only.
use Rattle.std.specs.Prelude.{ℕ, Bool, true, false, cond, eqb}
use Rattle.refusal.specs.Rules.{Coded}
use Rattle.parts.specs.declared.Message.{Message}
use Rattle.protocol.specs.declared.Call.{Call}
use Rattle.protocol.specs.declared.Order.TheVariants.{Declare, Create, Join, Leave}
use Rattle.protocol.specs.declared.Call.TheVariants.{Order, Deliver}
use Rattle.protocol.specs.declared.Reply.{Reply}
use Rattle.protocol.specs.Answer.{accepted, is_granted, is_left_alone, says}
use Rattle.protocol.specs.State.{State}
use Rattle.protocol.specs.Calls.{message_at}

-- ---- R10.3: the events
pub data Event : Type 0 where
  -- the ring is as it was
  stays : Event
  -- u is the first
  founded : (u : ℕ) → Event
  -- v was let in by p, behind which it now stands
  admitted : (v p : ℕ) → Event
  -- v was released by p, whose right link is now what v's was
  released : (v p : ℕ) → Event
  -- u was the last, and went alone
  emptied : (u : ℕ) → Event

-- R10.2, a SetR granted by its delivery: where it asked for a join, its sender is let in by the
-- node that it is for, and else released by it
abbrev pub grant_of : (ℕ → Bool) → Message → Event
grant_of joins m = cond (joins m.sender) (admitted m.sender m.to) (released m.sender m.to)

-- R10.3, what a call with this answer did; `joins` says of whom the last join or leave that was not
-- refused was a join
abbrev pub event_of : State → (ℕ → Bool) → Call → Coded Reply → Event
event_of s joins (Order (Declare key)) said = stays
event_of s joins (Order (Create u)) said = cond (accepted said) (founded u) stays
event_of s joins (Order (Join u p q)) said = stays
event_of s joins (Order (Leave u)) said = cond (says is_left_alone said) (emptied u) stays
event_of s joins (Deliver place) said = cond (says is_granted said) (grant_of joins (message_at s place)) stays

-- ---- R10.2: who is told inserted
-- f with b in u's place
abbrev pub put : (ℕ → Bool) → ℕ → Bool → ℕ → Bool
put f u b v = cond (eqb v u) b (f v)

-- R10.2, told inserted: those who founded the ring or were let in, and since then were not released
-- and did not go alone
abbrev pub told_after : (ℕ → Bool) → Event → ℕ → Bool
told_after told stays = told
told_after told (founded u) = put told u true
told_after told (admitted v p) = put told v true
told_after told (released v p) = put told v false
told_after told (emptied u) = put told u false
