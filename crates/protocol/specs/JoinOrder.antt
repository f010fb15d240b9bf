-- R6.13: the order of a join's refusals before change request (i), in which 24 came before 25, and
-- which calls it answers otherwise. Only this order is the former one; every other rule is today's.
-- No code goes by it. The claim is stated in full, and cites no proof. Definitions only.
use Rattle.std.specs.Prelude.{ℕ, ◌≡◌, ◌↔◌, Bool, false, not, ◌&&◌, cond, List, [], ◌∷◌, ◌++◌, T}
use Rattle.refusal.specs.Code.{plain}
use Rattle.refusal.specs.Rules.{no, Rule, ◌when◌, ruled}
use Rattle.interval.specs.Interval.{between}
use Rattle.parts.specs.Tests.{is_out}
use Rattle.node.specs.Actions.{join_rules as join_step_rules}
use Rattle.protocol.specs.declared.Call.{Call}
use Rattle.protocol.specs.declared.Order.TheVariants.{Declare, Create, Join, Leave}
use Rattle.protocol.specs.declared.Call.TheVariants.{Order, Deliver}
use Rattle.protocol.specs.State.{State, empty, declared, node_at, status_at, key_at, notice_waits, well_formed}
use Rattle.protocol.specs.Calls.{Result, refused, is_full, peer_at, rules_of, effect_of, apply_of}
use Rattle.protocol.specs.History.{history}

-- ---- the former order
-- R6.13: the step's own rules whole (6, 23, 24), and then the network's 25 and 28
abbrev pub former_join_rules : State → ℕ → ℕ → ℕ → List Rule
former_join_rules s u p q =
    (6 when not (well_formed s))
    ∷ (5 when not (declared s u))
    ∷ (5 when not (declared s p))
    ∷ (5 when not (declared s q))
    ∷ join_step_rules u (node_at s u) (peer_at s p) (peer_at s q)
    ++ (25 when notice_waits s u)
    ∷ (28 when is_full s)
    ∷ []

-- R6.13: every other call has the rules that it has
abbrev pub former_rules_of : State → Call → List Rule
former_rules_of s (Order (Declare key)) = rules_of s (Order (Declare key))
former_rules_of s (Order (Create u)) = rules_of s (Order (Create u))
former_rules_of s (Order (Join u p q)) = former_join_rules s u p q
former_rules_of s (Order (Leave u)) = rules_of s (Order (Leave u))
former_rules_of s (Deliver place) = rules_of s (Deliver place)

-- R6.13: what came of a call; where no rule refused it, it did what it does
unfoldable pub former_apply_of : State → Call → Result
former_apply_of s call = ruled (former_rules_of s call) (refused s) (effect_of s call)

-- R6.13: where a list of calls led
abbrev pub former_run : State → List Call → State
former_run s [] = s
former_run s (call ∷ calls) = former_run (former_apply_of s call).state calls

-- ---- which answers changed
-- R6.13: a join that meets both 25 and 24, and none of 6, 5 and 23 before them
abbrev pub both_faults : State → Call → Bool
both_faults s (Order (Declare key)) = false
both_faults s (Order (Create u)) = false
both_faults s (Order (Join u p q)) =
    well_formed s
    && (declared s u && (declared s p && (declared s q
    && (is_out (status_at s u)
    && (notice_waits s u && not (between (key_at s p) (key_at s q) (key_at s u)))))))
both_faults s (Order (Leave u)) = false
both_faults s (Deliver place) = false

-- R6.13: of every network, well formed or not, and of every call
pub record JoinOrderClaim : Type 0 where
  -- such a join is refused 25, and every other call comes to what it came to
  pub now : (s : State) (call : Call) → apply_of s call ≡ cond (both_faults s call) (refused s (plain 25)) (former_apply_of s call)
  -- it was refused 24
  pub before : (s : State) (call : Call) → former_apply_of s call ≡ cond (both_faults s call) (refused s (plain 24)) (apply_of s call)
  -- so the calls told 25 that were told 24 are exactly these
  pub exactly : (s : State) (call : Call) → (((apply_of s call).said ≡ no (plain 25)) × ((former_apply_of s call).said ≡ no (plain 24))) ↔ T (both_faults s call)
  -- no call leaves another network or posts other messages
  pub effects : (s : State) (call : Call) → ((apply_of s call).state ≡ (former_apply_of s call).state) × ((apply_of s call).posts ≡ (former_apply_of s call).posts)
  -- and every list of calls leads to the network that it led to
  pub lists : (calls : List Call) → former_run empty calls ≡ (history calls).state
