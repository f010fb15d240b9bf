-- What the order of a join's refusals changed (R6.13). Before the two rules that changed places,
-- and after them, both orders have the same rules, but for the step's own 6, which refuses nothing
-- that a well-formed network hands it. So they differ only where no rule before the two refuses and
-- both of the two hold. There both orders refuse, and a refusal changes nothing. That calls lead to
-- a network with such a join is computed at the end. Assumes nothing.
use mathlib.Core.Path.{◌≡◌, refl, sym, ap, ◌∙◌}
use mathlib.Core.Logic.{◌↔◌}
use mathlib.Core.Bool.{Bool, true, false, not, ◌&&◌, cond, and_comm}
use Rattle.std.specs.Prelude.{Option, Some}
use mathlib.Core.List.{List, [], ◌∷◌}
use Prim.Native.Nat.{ℕ}
use native.Mathlib.Omega.{arith}
use lib.ListN.{take}
use lib.Dec.{T}
use borrow.Author.Tests.{ltb-true}
use Rattle.predicates.proofs.Laws.{impossible}
use Rattle.predicates.proofs.TestLaws.{is_true}
use Rattle.refusal.specs.Code.{Reason, plain}
use Rattle.refusal.specs.Rules.{Coded, no, Rule, ◌when◌, first, unless_refused}
use Rattle.refusal.proofs.Laws.{exchanged}
use Rattle.interval.specs.Interval.{between}
use Rattle.sequence.specs.Sequence.{first_seq, last_seq, next_seq, newer, has_next, capped_next}
use Rattle.parts.specs.Tests.{is_out}
use Rattle.parts.specs.Shape.{message_fits}
use Rattle.node.specs.Shape.{node_fits, well_formed as node_is_sound, deliverable, peer_fits}
use Rattle.node.specs.Actions.{create_of, join_of, leave_of, grants, receive_of}
use Rattle.protocol.specs.declared.Call.{Call}
use Rattle.protocol.specs.declared.Order.TheVariants.{Declare, Create, Join, Leave}
use Rattle.protocol.specs.declared.Call.TheVariants.{Order, Deliver}
use Rattle.protocol.specs.declared.Reply.{Reply}
use Rattle.protocol.specs.State.{State, declared, status_at, key_at, notice_waits, well_formed}
use Rattle.protocol.specs.Calls.{Result, refused, is_full, join_rules, rules_of, effect_of, apply_of}
use Rattle.protocol.specs.History.{History, start, advanced, run, history}
use Rattle.protocol.specs.Example.{late_notice}
use Rattle.protocol.specs.JoinOrder.{former_join_rules, former_rules_of, former_apply_of, former_run, both_faults, JoinOrderClaim}
use Rattle.protocol.proofs.Facts.{well-formed, join-sound}

-- ---- each order by the other
-- what one order tells is what the other does, but where both faults are
record EachByTheOther (now former : Option Reason) (faults : Bool) : Type 0 where
  now_is : now ≡ cond faults (Some (plain 25)) former
  former_is : former ≡ cond faults (Some (plain 24)) now

alike : {told : Option Reason} → EachByTheOther told told false
alike = record { now_is = refl; former_is = refl }

module _ {now former : Option Reason} {faults : Bool} where
  -- behind a rule that both orders have, where it does not refuse
  behind : (r : Reason) (b : Bool) → (b ≡ true → EachByTheOther now former faults) → EachByTheOther (cond (not b) (Some r) now) (cond (not b) (Some r) former) (b && faults)
  behind r true each = each refl
  behind r false each = alike

  -- behind one that the former order alone has, and that does not refuse
  behind-own : (r : Reason) (b : Bool) → b ≡ false → EachByTheOther now former faults → EachByTheOther now (cond b (Some r) former) faults
  behind-own r true e each = impossible (sym e)
  behind-own r false e each = each

-- the two rules that changed places
in-either-order : (notice misses : Bool) (rest : List Rule)
    → EachByTheOther (first ((25 when notice) ∷ (24 when misses) ∷ rest)) (first ((24 when misses) ∷ (25 when notice) ∷ rest)) (notice && misses)
in-either-order notice misses rest = record {
  now_is = exchanged (plain 25) (plain 24) notice misses rest;
  former_is = exchanged (plain 24) (plain 25) misses notice rest ∙ (λ i. cond (and_comm misses notice i) (Some (plain 24)) (first ((25 when notice) ∷ (24 when misses) ∷ rest)));
}

join-orders : (s : State) (u p q : ℕ) → EachByTheOther (first (join_rules s u p q)) (first (former_join_rules s u p q)) (both_faults s (Order (Join u p q)))
join-orders s u p q =
    behind (plain 6) (well_formed s) (λ w.
    behind (plain 5) (declared s u) (λ node.
    behind (plain 5) (declared s p) (λ left.
    behind (plain 5) (declared s q) (λ right.
    behind-own (plain 6) _ (join-sound (well-formed s w) u p q (ltb-true _ _ node) (ltb-true _ _ left) (ltb-true _ _ right))
    (behind (plain 23) (is_out (status_at s u)) (λ out.
    in-either-order (notice_waits s u) (not (between (key_at s p) (key_at s q) (key_at s u))) ((28 when is_full s) ∷ [])))))))

-- ---- a call
module _ (s : State) where
  orders : (call : Call) → EachByTheOther (first (rules_of s call)) (first (former_rules_of s call)) (both_faults s call)
  orders (Order (Declare key)) = alike
  orders (Order (Create u)) = alike
  orders (Order (Join u p q)) = join-orders s u p q
  orders (Order (Leave u)) = alike
  orders (Deliver place) = alike

  -- what comes of a call, by what comes of its rules
  carried : (faults : Bool) (r : Reason) (o : Option Reason) (e : Result) → unless_refused (cond faults (Some r) o) (refused s) e ≡ cond faults (refused s r) (unless_refused o (refused s) e)
  carried true r o e = refl
  carried false r o e = refl

  module _ (call : Call) where
    now : apply_of s call ≡ cond (both_faults s call) (refused s (plain 25)) (former_apply_of s call)
    unfolding apply_of former_apply_of
    now = ap (λ o. unless_refused o (refused s) (effect_of s call)) (orders call).now_is ∙ carried (both_faults s call) (plain 25) (first (former_rules_of s call)) (effect_of s call)

    before : former_apply_of s call ≡ cond (both_faults s call) (refused s (plain 24)) (apply_of s call)
    unfolding apply_of former_apply_of
    before = ap (λ o. unless_refused o (refused s) (effect_of s call)) (orders call).former_is ∙ carried (both_faults s call) (plain 24) (first (rules_of s call)) (effect_of s call)

-- ---- so two numbers are told exactly where both faults are
two-numbers : {said : Coded Reply} → said ≡ no (plain 25) → said ≡ no (plain 24) → ⊥
two-numbers e f = let same : ◌≡◌ {A = ℕ} 25 24 = cc in omega arith

module _ (s : State) (call : Call) where
  exactly : (((apply_of s call).said ≡ no (plain 25)) × ((former_apply_of s call).said ≡ no (plain 24))) ↔ T (both_faults s call)
  exactly = (told (both_faults s call) (now s call), meets)
    where
      told : (b : Bool) → apply_of s call ≡ cond b (refused s (plain 25)) (former_apply_of s call)
          → ((apply_of s call).said ≡ no (plain 25)) × ((former_apply_of s call).said ≡ no (plain 24)) → T b
      told true e numbers = tt
      told false e (late, early) = two-numbers late (ap (λ (r : Result). r.said) e ∙ early)

      meets : T (both_faults s call) → ((apply_of s call).said ≡ no (plain 25)) × ((former_apply_of s call).said ≡ no (plain 24))
      meets t =
          let faults : both_faults s call ≡ true = is_true (both_faults s call) t in (
            ap (λ (r : Result). r.said) (rw faults at (now s call)),
            ap (λ (r : Result). r.said) (rw faults at (before s call)),
          )

  -- both orders refuse there, and a refusal changes nothing
  effects : ((apply_of s call).state ≡ (former_apply_of s call).state) × ((apply_of s call).posts ≡ (former_apply_of s call).posts)
  effects = go (both_faults s call) (now s call) (before s call)
    where
      go : (b : Bool) → apply_of s call ≡ cond b (refused s (plain 25)) (former_apply_of s call) → former_apply_of s call ≡ cond b (refused s (plain 24)) (apply_of s call)
          → ((apply_of s call).state ≡ (former_apply_of s call).state) × ((apply_of s call).posts ≡ (former_apply_of s call).posts)
      go true e f = (ap (λ (r : Result). r.state) e ∙ sym (ap (λ (r : Result). r.state) f), ap (λ (r : Result). r.posts) e ∙ sym (ap (λ (r : Result). r.posts) f))
      go false e f = (ap (λ (r : Result). r.state) e, ap (λ (r : Result). r.posts) e)

same-way : (h : History) (calls : List Call) → former_run h.state calls ≡ (run h calls).state
same-way h [] = refl
same-way h (call ∷ calls) = ap (λ s. former_run s calls) (sym (effects h.state call).0) ∙ same-way (advanced h call) calls

pub join_order : JoinOrderClaim
join_order = record { now = now; before = before; exactly = exactly; effects = effects; lists = same-way start }

-- ---- so it is not about networks that never come up: after 17 calls of `late_notice` node 1 is
-- out, a notice to it waits, and its key, 2,000, is not between 1,000 and 1,500
abbrev meets_both : List Call
meets_both = take 17 late_notice

pub both_faults_met : T (both_faults (history meets_both).state (Order (Join 1 0 2)))
unfolding apply_of well_formed between first_seq last_seq next_seq newer has_next capped_next node_fits message_fits node_is_sound deliverable peer_fits create_of join_of leave_of grants receive_of
both_faults_met = tt
