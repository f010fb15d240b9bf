-- No rules stand here: it is what the code makes of what the rules say, and of a node's step.
-- Definitions only.
use Rattle.std.specs.Prelude.{ℕ, ◌+◌, not, List, [], ◌∷◌, length, leb, Option, Some, Result, Ok, Err}
use Rattle.refusal.specs.declared.Refusal.{Refusal}
use Rattle.refusal.specs.Code.{Reason, reason}
use Rattle.refusal.specs.Rules.{Coded, done, no, Rule, ◌when◌}
use Rattle.parts.specs.declared.Message.{Message}
use Rattle.node.specs.Shape.{declared_of}
use Rattle.node.specs.Actions.{Effect}
use Rattle.protocol.specs.declared.Order.{Order}
use Rattle.protocol.specs.declared.Order.TheVariants.{Declare, Create, Join, Leave}
use Rattle.protocol.specs.declared.Reply.{Reply}
use Rattle.protocol.specs.declared.Reply.TheVariants.{Declared}
use Rattle.protocol.specs.State.{queue_limit}
use Rattle.protocol.specs.Calls.{stepped}
use Rattle.protocol.specs.Answer.{answered}
use Rattle.access.specs.declared.Spots.{Spots}
use Rattle.access.specs.Changes.{Written, nothing, adds, steps, delivers, written}
use Rattle.decision.specs.declared.Decision.{Decision}

-- ---- where an order looks
abbrev pub spots_of : Order → Spots
spots_of (Declare key) = record { node = 0; left = 0; right = 0 }
spots_of (Create u) = record { node = u; left = 0; right = 0 }
spots_of (Join u p q) = record { node = u; left = p; right = q }
spots_of (Leave u) = record { node = u; left = 0; right = 0 }

-- ---- a decision: what is to be written, how many messages are posted, and what is said
pub record Decided : Type 0 where
  pub change : Written
  pub posted : ℕ
  pub said : Coded Reply

abbrev pub turned_away : Reason → Decided
turned_away r = record { change = nothing; posted = 0; said = no r }

abbrev pub decided : Result Decision Refusal → Decided
decided (Ok d) = record { change = written d.change; posted = d.report.posted; said = answered d.report.answer }
decided (Err r) = turned_away (reason r)

abbrev pub adding : ℕ → ℕ → Decided
adding number key = record { change = adds (declared_of key); posted = 0; said = done (Declared number key) }

abbrev pub stepping : ℕ → Effect → Decided
stepping u e = record { change = steps u e.node e.posts; posted = length e.posts; said = stepped e.said }

abbrev pub delivering : ℕ → ℕ → Effect → Decided
delivering place u e = record { change = delivers place u e.node e.posts; posted = length e.posts; said = stepped e.said }

-- ---- tests
-- after a node's step: what the step refuses, and else what the rest says
abbrev pub after_step : {A : Type 0} → Coded A → Option Reason → Option Reason
after_step (done a) rest = rest
after_step (no r) rest = Some r

-- the posts of a step find no room after so many messages, which is how the code comes to 28
abbrev pub room_tests : ℕ → List Message → List Rule
room_tests waiting posts = (28 when not (leb (waiting + length posts) queue_limit)) ∷ []
