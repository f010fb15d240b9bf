-- The calls on a network (docs/RULES.md, section 6): declare, create, join, leave, deliver. Each
-- has its refusals in their order, as a list of rules, and its effect, which is that of one node's
-- step: the node's rules are those of the crate `node`, and are not written a second time.
-- Definitions only.
use Rattle.std.specs.Prelude.{ℕ, suc, Bool, not, ◌&&◌, List, [], ◌∷◌, ◌++◌, length, get_or, set, take, drop, ltb, eqb}
use Rattle.predicates.specs.Tests.{every_below}
use Rattle.refusal.specs.Code.{Reason}
use Rattle.refusal.specs.Rules.{Coded, done, no, Rule, ◌when◌, ruled}
use Rattle.serial.specs.Serial.{in_range}
use Rattle.parts.specs.declared.Message.{Message}
use Rattle.parts.specs.Tests.{is_out}
use Rattle.node.specs.declared.Peer.{Peer}
use Rattle.node.specs.declared.Outcome.{Outcome}
use Rattle.node.specs.Shape.{declared_of, capacity}
use Rattle.node.specs.Actions.{Effect, set_r_nak, not_out, not_between, create_of, join_of, alone, leave_rules as leave_step_rules, leave_of, would_grant, receive_of}
use Rattle.protocol.specs.declared.Call.{Call}
use Rattle.protocol.specs.declared.Order.TheVariants.{Declare, Create, Join, Leave}
use Rattle.protocol.specs.declared.Call.TheVariants.{Order, Deliver}
use Rattle.protocol.specs.declared.Reply.{Reply}
use Rattle.protocol.specs.declared.Reply.TheVariants.{Declared, Stepped}
use Rattle.protocol.specs.State.{State, queue_limit, declared, node_at, status_at, key_at, notice_waits, well_formed}

-- ---- R11.2: what a call comes to, which is the network left behind, the messages posted in their
-- order, and an answer or the reason of a refusal
pub record Result : Type 0 where
  pub state : State
  pub posts : List Message
  pub said : Coded Reply

-- R6.2: a refusal says its reason; the network is as it was, and nothing is posted
abbrev pub refused : State → Reason → Result
refused s r = record { state = s; posts = []; said = no r }

-- R6.6, R6.7, R6.8, R6.9: what a node's step says is what the network says
abbrev pub stepped : Coded Outcome → Coded Reply
stepped (done o) = done (Stepped o)
stepped (no r) = no r

-- R6.6, R6.7, R6.8, R6.9, node u steps, while `messages` wait: it stands in its place as the step
-- leaves it, and its posts stand at the end
abbrev pub commit : State → ℕ → List Message → Effect → Result
commit s u messages e = record {
  state = record { nodes = set s.nodes u e.node; messages = messages ++ e.posts };
  posts = e.posts;
  said = stepped e.said;
}

-- refusal 28: 64 messages wait
abbrev pub is_full : State → Bool
is_full s = not (ltb (length s.messages) queue_limit)

-- ---- declare
-- refusal 21: a node has this key
abbrev pub key_is_taken : State → ℕ → Bool
key_is_taken s key = not (every_below (length s.nodes) (λ v. not (eqb (key_at s v) key)))

-- R6.5: 4 of the key, 20 where there is no room, 21 where a node has the key
abbrev pub declare_rules : State → ℕ → List Rule
declare_rules s key =
    (6 when not (well_formed s))
    ∷ (4 when not (in_range key))
    ∷ (20 when not (ltb (length s.nodes) capacity))
    ∷ (21 when key_is_taken s key)
    ∷ []

-- R6.5: behind the others, so that its number is how many they are (R1.7)
abbrev pub declaring : State → ℕ → Result
declaring s key = record {
  state = record { nodes = s.nodes ++ (declared_of key ∷ []); messages = s.messages };
  posts = [];
  said = done (Declared (length s.nodes) key);
}

-- ---- create
-- refusal 22: whether there is none that is not out
abbrev pub all_out : State → Bool
all_out s = every_below (length s.nodes) (λ v. is_out (status_at s v))

-- R6.6: 22 where a node is not out, 25 where a notice to it waits
abbrev pub create_rules : State → ℕ → List Rule
create_rules s u =
    (6 when not (well_formed s))
    ∷ (5 when not (declared s u))
    ∷ (22 when not (all_out s))
    ∷ (25 when notice_waits s u)  -- a join has it too
    ∷ []

-- R6.6: the node's own creation
abbrev pub creating : State → ℕ → Result
creating s u = commit s u s.messages (create_of u (node_at s u))

-- ---- join
-- R6.7: a neighbour, with its own key
abbrev pub peer_at : State → ℕ → Peer
peer_at s p = record { number = p; key = key_at s p }

-- R6.7: 5 of each number; the node's own 23 and 24, and between them 25 where a notice waits; 28
-- where 64 messages wait
abbrev pub join_rules : State → ℕ → ℕ → ℕ → List Rule
join_rules s u p q =
    (6 when not (well_formed s))
    ∷ (5 when not (declared s u))
    ∷ (5 when not (declared s p))
    ∷ (5 when not (declared s q))
    ∷ not_out (node_at s u)  -- 23
    ∷ (25 when notice_waits s u)  -- before 24
    ∷ not_between (node_at s u) (peer_at s p) (peer_at s q)  -- 24
    ∷ (28 when is_full s)
    ∷ []

-- R6.7: the node's own join
abbrev pub joining : State → ℕ → ℕ → ℕ → Result
joining s u p q = commit s u s.messages (join_of u (node_at s u) (peer_at s p) (peer_at s q))

-- ---- leave
-- R6.8: 5, the step's own rules (6, 26, 27), and 28 of a leave that posts
abbrev pub leave_rules : State → ℕ → List Rule
leave_rules s u =
    (6 when not (well_formed s))
    ∷ (5 when not (declared s u))
    ∷ leave_step_rules u (node_at s u)
    ++ (28 when is_full s && not (alone u (node_at s u)))
    ∷ []

-- R6.8: the node's own leave
abbrev pub leaving : State → ℕ → Result
leaving s u = commit s u s.messages (leave_of u (node_at s u))

-- ---- deliver
-- R6.9: the message at a place; past the last one there is none, and 29 refuses
abbrev pub message_at : State → ℕ → Message
message_at s place = get_or s.messages place (set_r_nak 0 0)

-- R6.9: the message at a place is taken, and the later ones move up
abbrev pub without : ℕ → List Message → List Message
without place ms = take place ms ++ drop (suc place) ms

-- R6.10: whether the message at a place would be granted by the node it is for
abbrev pub is_grantable : State → ℕ → Bool
is_grantable s place = would_grant (node_at s (message_at s place).to) (message_at s place).sender (message_at s place).kind

-- R6.9: 28 of a SetR that would be granted while 64 messages wait, 29 where there is no message
abbrev pub deliver_rules : State → ℕ → List Rule
deliver_rules s place =
    (6 when not (well_formed s))
    ∷ (28 when is_full s && (ltb place (length s.messages) && is_grantable s place))
    ∷ (29 when not (ltb place (length s.messages)))
    ∷ []

-- R6.9: what the addressee does; it never says 6 on a well-formed network (`received`,
-- `proofs/Cases.antt`)
abbrev pub receiving : State → Message → Effect
receiving s m = receive_of m.to (node_at s m.to) m

-- R6.9: the message is taken, the addressee acts, and its posts stand at the end
abbrev pub delivering : State → ℕ → Result
delivering s place = commit s (message_at s place).to (without place s.messages) (receiving s (message_at s place))

-- ---- any call
-- R6.3: the rules of any call stand in this order
abbrev pub rules_of : State → Call → List Rule
rules_of s (Order (Declare key)) = declare_rules s key
rules_of s (Order (Create u)) = create_rules s u
rules_of s (Order (Join u p q)) = join_rules s u p q
rules_of s (Order (Leave u)) = leave_rules s u
rules_of s (Deliver place) = deliver_rules s place

-- R6.5, R6.6, R6.7, R6.8, R6.9: what a call does that no rule refuses
abbrev pub effect_of : State → Call → Result
effect_of s (Order (Declare key)) = declaring s key
effect_of s (Order (Create u)) = creating s u
effect_of s (Order (Join u p q)) = joining s u p q
effect_of s (Order (Leave u)) = leaving s u
effect_of s (Deliver place) = delivering s place

-- R6.1: the first of its rules that holds refuses a call, and else it has its effect
unfoldable pub apply_of : State → Call → Result
apply_of s call = ruled (rules_of s call) (refused s) (effect_of s call)
