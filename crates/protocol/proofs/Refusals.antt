-- Refusal 6 is given exactly where the network is not well formed: a node's own rule 6, which a
-- step carries, never refuses in a well-formed network. A call never says 31. And whatever is not
-- refused is accepted. Assumes nothing.
use mathlib.Core.Path.{◌≡◌, refl, ap}
use mathlib.Core.Logic.{⊎_elim, ◌↔◌}
use mathlib.Core.Bool.{false, not}
use mathlib.Core.List.{List}
use Rattle.std.specs.Prelude.{Option, None, Some}
use Prim.Native.Nat.{ℕ}
use lib.Dec.{T}
use Rattle.predicates.proofs.Laws.{impossible}
use Rattle.predicates.proofs.TestLaws.{decided}
use Rattle.refusal.specs.Code.{Reason, plain}
use Rattle.refusal.specs.Rules.{no, first, unless_refused}
use Rattle.refusal.proofs.Laws.{Never, other, fails, never, others}
use Rattle.parts.specs.declared.Message.{Message}
use Rattle.protocol.specs.declared.Call.{Call}
use Rattle.protocol.specs.declared.Order.TheVariants.{Declare, Create, Join, Leave}
use Rattle.protocol.specs.declared.Call.TheVariants.{Order, Deliver}
use Rattle.protocol.specs.State.{State, well_formed}
use Rattle.protocol.specs.Calls.{Result, refused, rules_of, effect_of, apply_of}
use Rattle.protocol.specs.Questions.{Walk, found, lost, walked, owner_from, owner_rules, owner_of, hop_limit}
use Rattle.protocol.specs.Answer.{accepted}
use Rattle.protocol.proofs.Facts.{WellFormed, well-formed, tested, node-sound}
use Rattle.protocol.proofs.Cases.{tested-below, accepted_case}
use Rattle.protocol.proofs.Changes.{Act, drops, lets_in, lets_go, denies, joins, goes, stays_out, stays_in, takes, ignores}
use Rattle.protocol.proofs.Changes.{Accepted, declares, creates, asks, goes_alone, leaves, delivers}

-- ---- whatever a node does with a message, its delivery is not refused
pub act_accepted : {s : State} {m : Message} {rest : List Message} {r : Result} → Act s m rest r → T (accepted r.said)
act_accepted (drops p u a n em out er) = rw er tt
act_accepted (lets_in v p e n k em g room er) = rw er tt
act_accepted (lets_go v p new e n k em d g er) = rw er tt
act_accepted (denies v p new e n em er) = rw er tt
act_accepted (joins p u n em e er) = rw er tt
act_accepted (goes p u n em e er) = rw er tt
act_accepted (stays_out p u em e er) = rw er tt
act_accepted (stays_in p u em e er) = rw er tt
act_accepted (takes p u a n em o new er) = rw er tt
act_accepted (ignores p u a n em o old er) = rw er tt

pub accepted-said : {s : State} {call : Call} {r : Result} → Accepted s call r → T (accepted r.said)
accepted-said (declares key ec h er) = rw er tt
accepted-said (creates u ec h er) = rw er tt
accepted-said (asks u p q ec h er) = rw er tt
accepted-said (goes_alone u ec h er) = rw er tt
accepted-said (leaves u p q n ec h er) = rw er tt
accepted-said (delivers place m rest ec h act) = act_accepted act

-- ---- no rule of a call on a well-formed network gives 6
module _ (s : State) (w : WellFormed s) where
  sound : not (well_formed s) ≡ false
  sound = ap not (tested s w)

  never-six : (call : Call) → Never 6 (rules_of s call)
  never-six (Order (Declare key)) = fails sound (others refl)
  never-six (Order (Create u)) = fails sound (others refl)
  never-six (Order (Join u p q)) = fails sound (others refl)
  never-six (Order (Leave u)) = fails sound (other refl (λ known. fails (ap not (node-sound w u (tested-below u _ known))) (others refl)))
  never-six (Deliver place) = fails sound (others refl)

-- ---- a number that no rule of a call gives is not said
pub never-said : (s : State) (call : Call) {n : ℕ} → Never n (rules_of s call) → ¬ ((apply_of s call).said ≡ no (plain n))
unfolding apply_of
never-said s call {n} t e = go (first (rules_of s call)) refl e
  where
    go : (o : Option Reason) → first (rules_of s call) ≡ o → ¬ ((unless_refused o (refused s) (effect_of s call)).said ≡ no (plain n))
    go None clear f = let u : T false = rw f at (accepted-said (accepted_case s call clear)) in u
    go (Some r) refuses f = never t cc

-- 31 is a question's
pub calls_never_31 : (s : State) (call : Call) → ¬ ((apply_of s call).said ≡ no (plain 31))
calls_never_31 s call = never-said s call (rules call)
  where
    rules : (call : Call) → Never 31 (rules_of s call)
    rules (Order (Declare key)) = others refl
    rules (Order (Create u)) = others refl
    rules (Order (Join u p q)) = others refl
    rules (Order (Leave u)) = others refl
    rules (Deliver place) = others refl

-- ---- so 6 says that the network is not well formed, and nothing else
first-six : (s : State) (call : Call) → well_formed s ≡ false → first (rules_of s call) ≡ Some (plain 6)
first-six s (Order (Declare key)) e = rw e
first-six s (Order (Create u)) e = rw e
first-six s (Order (Join u p q)) e = rw e
first-six s (Order (Leave u)) e = rw e
first-six s (Deliver place) e = rw e

pub six : (s : State) (call : Call) → ((apply_of s call).said ≡ no (plain 6)) ↔ (well_formed s ≡ false)
unfolding apply_of
six s call = (λ e. ⊎_elim (λ t. absurd (never-said s call (never-six s (well-formed s t) call) e)) (λ f. f) (decided (well_formed s)), λ f. rw (first-six s call f))

-- ---- nor is 6 said to a question for an owner of a well-formed network
pub owner_never_six : (s : State) → WellFormed s → (start serial : ℕ) → ¬ (owner_of s start serial ≡ no (plain 6))
unfolding owner_of
owner_never_six s w start serial e = go (first (owner_rules s start serial)) refl e
  where
    rules : Never 6 (owner_rules s start serial)
    rules = fails (sound s w) (others refl)

    walk : (x : Walk) → ¬ (walked x ≡ no (plain 6))
    walk (found u hops) f = impossible cc
    walk lost f = impossible cc

    go : (o : Option Reason) → first (owner_rules s start serial) ≡ o → ¬ (unless_refused o no (walked (owner_from s serial (hop_limit s) start 0)) ≡ no (plain 6))
    go None clear f = walk (owner_from s serial (hop_limit s) start 0) f
    go (Some r) refuses f = never rules cc
