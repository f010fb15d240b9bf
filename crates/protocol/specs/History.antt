-- What comes of a list of calls from the empty network, refused calls included (R10.1); and beside
-- it what the calls and their answers tell: which nodes are inserted (R10.2), by the events of the
-- calls, one after the other; and how much was posted, granted and denied (R10.16). Definitions
-- only.
use Rattle.std.specs.Prelude.{ℕ, ◌+◌, Bool, true, false, cond, List, [], ◌∷◌, length}
use Rattle.predicates.specs.Tests.{bit}
use Rattle.refusal.specs.Rules.{Coded}
use Rattle.protocol.specs.declared.Call.{Call}
use Rattle.protocol.specs.declared.Order.TheVariants.{Declare, Create, Join, Leave}
use Rattle.protocol.specs.declared.Call.TheVariants.{Order, Deliver}
use Rattle.protocol.specs.declared.Reply.{Reply}
use Rattle.protocol.specs.State.{State, empty}
use Rattle.protocol.specs.Calls.{apply_of}
use Rattle.protocol.specs.Answer.{accepted, is_granted, is_denied, says}
use Rattle.protocol.specs.Events.{Event, event_of, put, told_after}

-- ---- R10.1, R10.2, R10.16: the list so far, by the network it leads to, who is told inserted, of
-- whom the last join or leave that was not refused was a join, how many messages were posted, and
-- how many answers were `granted` and how many `denied`
pub record History : Type 0 where
  pub state : State
  pub told : ℕ → Bool
  pub joins : ℕ → Bool
  pub posts : ℕ
  pub grants : ℕ
  pub denials : ℕ

-- R10.1, R10.2, R10.16: the empty network, with nobody told inserted and nothing posted
abbrev pub start : History
start = record { state = empty; told = λ u. false; joins = λ u. false; posts = 0; grants = 0; denials = 0 }

-- R10.2: what a node asked for last, where it was not refused
abbrev pub joins_after : History → Call → Coded Reply → ℕ → Bool
joins_after h (Order (Declare key)) said = h.joins
joins_after h (Order (Create u)) said = h.joins
joins_after h (Order (Join u p q)) said = cond (accepted said) (put h.joins u true) h.joins
joins_after h (Order (Leave u)) said = cond (accepted said) (put h.joins u false) h.joins
joins_after h (Deliver place) said = h.joins

-- R10.3: what a call does to the ring after this list
abbrev pub happened : History → Call → Event
happened h call = event_of h.state h.joins call (apply_of h.state call).said

-- R10.1: a refused call stays in the list, and the next one gets the network that it handed back
abbrev pub advanced : History → Call → History
advanced h call = record {
  state = (apply_of h.state call).state;
  told = told_after h.told (happened h call);
  joins = joins_after h call (apply_of h.state call).said;
  posts = h.posts + length (apply_of h.state call).posts;
  grants = h.grants + bit (says is_granted (apply_of h.state call).said);
  denials = h.denials + bit (says is_denied (apply_of h.state call).said);
}

-- R10.1: the calls one after the other
abbrev pub run : History → List Call → History
run h [] = h
run h (call ∷ calls) = run (advanced h call) calls

-- R10.1: from the empty network
abbrev pub history : List Call → History
history calls = run start calls
