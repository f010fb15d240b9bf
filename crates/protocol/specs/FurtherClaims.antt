-- What the ring means for the questions, what a drain is, what is posted, who waits for an answer,
-- and what is dropped: claims beside the one over lists, each stated in full and citing no proof.
-- Definitions only.
use Rattle.std.specs.Prelude.{ℕ, ◌+◌, ◌^◌, ◌<◌, ◌≤◌, ◌≡◌, ◌≢◌, ◌↔◌, Bool, ◌&&◌, cond, List, [], ◌++◌, map, length, ltb, T, Some}
use Rattle.predicates.specs.Tests.{count}
use Rattle.refusal.specs.Code.{plain}
use Rattle.refusal.specs.Rules.{Coded, done, no}
use Rattle.serial.specs.Serial.{in_range}
use Rattle.interval.specs.Interval.{within}
use Rattle.links.specs.Walk.{after}
use Rattle.parts.specs.declared.Message.{Message}
use Rattle.parts.specs.Tests.{is_notice, is_out}
use Rattle.node.specs.declared.Outcome.TheVariants.{Dropped}
use Rattle.protocol.specs.declared.Call.{Call}
use Rattle.protocol.specs.declared.Call.TheVariants.{Order, Deliver}
use Rattle.protocol.specs.declared.Reply.{Reply}
use Rattle.protocol.specs.declared.Reply.TheVariants.{Stepped, Owner}
use Rattle.protocol.specs.State.{State, status_at, key_at, right_at, is_exchange_of, exchanges, load, well_formed}
use Rattle.protocol.specs.Calls.{message_at, without, apply_of}
use Rattle.protocol.specs.Answer.{accepted}
use Rattle.protocol.specs.History.{history}
use Rattle.protocol.specs.Claim.{Inserted, delivered}
use Rattle.protocol.specs.Questions.{owner_of}
use Rattle.protocol.specs.Drain.{places_within, allowed, places, deliver_all, drained, drain_of}

-- ---- the owner of a serial
-- R7.4: u is inserted, and the serial is in [key, key of right link)
pub record Owns (s : State) (serial u : ℕ) : Type 0 where
  pub inserted : Inserted s u
  pub next : ℕ
  pub right : right_at s u ≡ Some next
  pub holds : T (within (key_at s u) (key_at s next) serial)

-- R7.4: the answer is a node that so many hops from the start lead to, and it alone owns the serial
pub record FindsOwner (s : State) (start serial : ℕ) (said : Coded Reply) : Type 0 where
  pub node : ℕ
  pub hops : ℕ
  pub answer : said ≡ done (Owner node hops)
  pub owns : Owns s serial node
  pub only : (u : ℕ) → Owns s serial u → u ≡ node
  pub reached : after (right_at s) start hops ≡ node
  -- and no fewer hops do
  pub first : (k : ℕ) → k < hops → after (right_at s) start k ≢ node

-- R7.4, on a network that some list of calls makes, from an inserted start and for a serial in
-- range
abbrev pub OwnerClaim : Type 0
OwnerClaim = (calls : List Call) (start serial : ℕ) → Inserted (history calls).state start → T (in_range serial)
    → FindsOwner (history calls).state start serial (owner_of (history calls).state start serial)

-- R10.14: no question is answered 31
abbrev pub AlwaysFound : Type 0
AlwaysFound = (calls : List Call) (start serial : ℕ) → ¬ (owner_of (history calls).state start serial ≡ no (plain 31))

-- ---- a drain
-- R8.1, with this budget: it is its deliveries, none of them refused; no more than a budget that is
-- not 0; and fewer than it allows only where nothing waits at the end
pub record Drains (s : State) (budget : ℕ) : Type 0 where
  pub result : drain_of s budget ≡ drained s (places budget s)
  pub within_budget : budget ≢ 0 → length (places budget s) ≤ budget
  pub none_refused : delivered s (places budget s) ≡ length (places budget s)
  pub to_the_end : length (places budget s) < allowed budget s → (deliver_all s (places budget s)).messages ≡ []

-- R8.1: of every well-formed network, with any budget
abbrev pub DrainClaim : Type 0
DrainClaim = (s : State) → T (well_formed s) → (budget : ℕ) → Drains s budget

-- R8.4, with budget 0, which is no limit
pub record Unlimited (s : State) : Type 0 where
  -- at the end nothing waits
  pub nothing_waits : (deliver_all s (places 0 s)).messages ≡ []
  -- had more deliveries been allowed, the same would have been made
  pub no_limit : (more : ℕ) → places_within (allowed 0 s + more) s ≡ places 0 s
  -- R10.9: however many are allowed, no more are made than the load; and two bytes can count them
  pub within_load : (most : ℕ) → length (places_within most s) ≤ load s.messages
  pub count_fits : length (places 0 s) < 2 ^ 16

-- R8.4: of every well-formed network
abbrev pub UnlimitedClaim : Type 0
UnlimitedClaim = (s : State) → T (well_formed s) → Unlimited s

-- R10.1, a drain counts as its deliveries: it leads where the list of calls leads that has them at
-- its end, and posts what they post
pub record IsCalls (calls : List Call) (budget : ℕ) : Type 0 where
  pub state : (drain_of (history calls).state budget).state ≡ (history (calls ++ map Deliver (places budget (history calls).state))).state
  pub posts : (history calls).posts + length (drain_of (history calls).state budget).posts ≡ (history (calls ++ map Deliver (places budget (history calls).state))).posts

-- R10.1: after any list of calls, with any budget
abbrev pub DrainIsCalls : Type 0
DrainIsCalls = (calls : List Call) (budget : ℕ) → IsCalls calls budget

-- ---- what is posted
-- R6.9: the messages that a call leaves where they are: all, but for the one that a delivery takes
abbrev pub remaining : State → Call → Coded Reply → List Message
remaining s (Order order) said = s.messages
remaining s (Deliver place) said = cond (accepted said) (without place s.messages) s.messages

-- R6.7, R6.8, R6.9, of every network and call: what is posted stands behind these, and nothing else
-- does
abbrev pub PostsClaim : Type 0
PostsClaim = (s : State) (call : Call) → (apply_of s call).state.messages ≡ remaining s call (apply_of s call).said ++ (apply_of s call).posts

-- ---- who waits for an answer, and what is dropped
-- R10.17, after any list of calls: each node has just as many exchanges as its status allows, one
-- if it is ins or del, and else none. So no request is lost
abbrev pub NoneLost : Type 0
NoneLost = (calls : List Call) (u : ℕ) → count (is_exchange_of u) (history calls).state.messages ≡ exchanges (status_at (history calls).state u)

-- R10.18: a SetL at this place, to a node that is out
abbrev pub notice_to_out : State → ℕ → Bool
notice_to_out s place = ltb place (length s.messages) && (is_notice (message_at s place).kind && is_out (status_at s (message_at s place).to))

-- R10.18, of every network, well formed or not: that is what a delivery is answered `dropped` for
abbrev pub DropsClaim : Type 0
DropsClaim = (s : State) (place : ℕ) → ((apply_of s (Deliver place)).said ≡ done (Stepped Dropped)) ↔ T (well_formed s && notice_to_out s place)
