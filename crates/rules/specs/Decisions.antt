-- No rules stand here: it is what the code decides from the values that it looks at, by tests in
-- the order of the rules. The rules are those of the crate `protocol`, and that these decisions
-- come to them is proved in the crate `engine`. Definitions only.
use Rattle.std.specs.Prelude.{ℕ, ◌-◌, Bool, not, ◌&&◌, cond, List, [], ◌∷◌, ltb, Option, Some}
use Rattle.refusal.specs.Code.{Reason, plain}
use Rattle.refusal.specs.Rules.{Rule, ◌when◌, first, unless_refused, ruled}
use Rattle.serial.specs.Serial.{in_range}
use Rattle.node.specs.declared.Node.{Node}
use Rattle.node.specs.Shape.{capacity}
use Rattle.node.specs.Actions.{Effect, not_out, create_of, join_unchecked, leave_unchecked, act_of}
use Rattle.protocol.specs.declared.Order.{Order}
use Rattle.protocol.specs.declared.Order.TheVariants.{Declare, Create, Join, Leave}
use Rattle.access.specs.declared.Sight.{Sight}
use Rattle.access.specs.declared.Arrival.{Arrival}
use Rattle.searches.specs.declared.Found.{Found}
use Rattle.decision.specs.Decided.{Decided, turned_away, adding, stepping, delivering, after_step, room_tests}

-- where a number is not declared
abbrev pub unless : Bool → Option Reason → Option Reason
unless known rest = cond (not known) (Some (plain 5)) rest

-- ---- each order
abbrev pub declare_tests : ℕ → ℕ → Bool → List Rule
declare_tests key count taken = (4 when not (in_range key)) ∷ (20 when not (ltb count capacity)) ∷ (21 when taken) ∷ []

abbrev pub declare_decision : ℕ → ℕ → Bool → Decided
declare_decision key count taken = ruled (declare_tests key count taken) turned_away (adding count key)

abbrev pub create_tests : Found → List Rule
create_tests found = (22 when found.standing) ∷ (25 when found.notice) ∷ []

abbrev pub create_decision : ℕ → ℕ → Node → Found → Decided
create_decision u count node found = unless_refused (unless (ltb u count) (first (create_tests found))) turned_away (stepping u (create_of u node))

-- the step of a join, between the nodes in sight
abbrev pub join_step : ℕ → ℕ → ℕ → Sight → Effect
join_step u p q s = join_unchecked u s.node (record { number = p; key = s.left.key }) (record { number = q; key = s.right.key })

-- 23 and 25 are asked before that step, which sees no queue; of its own two refusals only 24 is left
abbrev pub before_joining : Node → Bool → List Rule
before_joining node notice = not_out node ∷ (25 when notice) ∷ []

abbrev pub join_tests : ℕ → ℕ → ℕ → Sight → Bool → Option Reason
join_tests u p q s notice =
    unless (ltb u s.count && (ltb p s.count && ltb q s.count))
    (unless_refused (first (before_joining s.node notice)) Some
    (after_step (join_step u p q s).said (first (room_tests s.waiting (join_step u p q s).posts))))

abbrev pub join_decision : ℕ → ℕ → ℕ → Sight → Bool → Decided
join_decision u p q s notice = unless_refused (join_tests u p q s notice) turned_away (stepping u (join_step u p q s))

abbrev pub leave_tests : ℕ → ℕ → ℕ → Node → Option Reason
leave_tests u count waiting node = unless (ltb u count) (after_step (leave_unchecked u node).said (first (room_tests waiting (leave_unchecked u node).posts)))

abbrev pub leave_decision : ℕ → ℕ → ℕ → Node → Decided
leave_decision u count waiting node = unless_refused (leave_tests u count waiting node) turned_away (stepping u (leave_unchecked u node))

abbrev pub order_decision : Order → Sight → Found → Decided
order_decision (Declare key) s f = declare_decision key s.count f.taken
order_decision (Create u) s f = create_decision u s.count s.node f
order_decision (Join u p q) s f = join_decision u p q s f.notice
order_decision (Leave u) s f = leave_decision u s.count s.waiting s.node

-- ---- a delivery
-- what the node that the message is for does with it
abbrev pub receive_step : Arrival → Effect
receive_step a = act_of a.message.to a.node a.message.sender a.message.kind

abbrev pub deliver_tests : ℕ → Arrival → List Rule
deliver_tests place a = (29 when not (ltb place a.waiting)) ∷ room_tests (a.waiting - 1) (receive_step a).posts

abbrev pub delivery_decision : ℕ → Arrival → Decided
delivery_decision place a = ruled (deliver_tests place a) turned_away (delivering place a.message.to (receive_step a))
