-- Each call keeps the invariant: what a call does, case by case of `Changes`, is handed to the
-- lemma about that kind of step, with the state's lists read as the function of nodes that the
-- invariant speaks of. Assumes nothing.
use Rattle.std.specs.Prelude.{Some}
use mathlib.Core.Path.{◌≡◌, refl, ap}
use mathlib.Core.Logic.{◌⊎◌, inl, inr, ⊎_elim, ◌↔◌, ◌≢◌}
use mathlib.Core.Bool.{Bool, true, false}
use mathlib.Core.List.{List, [], ◌∷◌, ◌++◌}
use Prim.Native.Nat.{ℕ, ◌≤◌, ◌<◌}
use native.Mathlib.Omega.{arith}
use native.Mathlib.Decide.{dec_lt}
use lib.ListN.{length, set}
use lib.Dec.{ltb, eqb}
use borrow.Author.Tests.{ltb-true, eq-eqb, ne_eqb, eqb-true, eqb-false}
use Rattle.predicates.specs.Tests.{count}
use Rattle.predicates.proofs.Laws.{both, by_test}
use Rattle.predicates.proofs.TestLaws.{◌∈◌, not-both}
use Rattle.refusal.specs.Code.{Reason}
use Rattle.refusal.specs.Rules.{no as refusal}
use Rattle.sequence.specs.Sequence.{Number, next_seq, capped_next}
use Rattle.parts.specs.declared.Status.TheVariants.{Out, Del}
use Rattle.parts.specs.declared.Message.{Message}
use Rattle.parts.specs.Tests.{is_in_or_del, seq_of}
use Rattle.node.specs.Actions.{set_r, set_r_ack, set_l, relinked}
use Rattle.node.proofs.FitLaws.{message-facts, number-named}
use Rattle.protocol.specs.declared.Call.{Call}
use Rattle.protocol.specs.declared.Order.TheVariants.{Declare, Create, Join, Leave}
use Rattle.protocol.specs.declared.Call.TheVariants.{Order, Deliver}
use Rattle.protocol.specs.State.{State, node_at, status_at, is_exchange_of, exchanges}
use Rattle.protocol.specs.Calls.{Result, message_at, peer_at}
use Rattle.protocol.specs.Events.{stays, grant_of, event_of, put, told_after}
use Rattle.protocol.specs.History.{History, joins_after}
use Rattle.protocol.specs.Claim.{posted_for}
use Rattle.protocol.proofs.Nodes.{listed, declared-at, past, set_at}
use Rattle.protocol.proofs.Waiting.{Taken, Limited}
use Rattle.protocol.proofs.Fields.{status_of}
use Rattle.protocol.proofs.Facts.{WellFormed}
use Rattle.protocol.proofs.Changes.{Grants, Act, drops, lets_in, lets_go, denies, joins, goes, stays_out, stays_in, takes, ignores}
use Rattle.protocol.proofs.Changes.{Accepted, declares, creates, asks, goes_alone, leaves, delivers, Change, refuses, accepts}
use Rattle.protocol.proofs.Moves.{unconcerned}
use Rattle.protocol.proofs.Numbers.{NumbersFit}
use Rattle.protocol.proofs.Invariant.{Invariant}
use Rattle.protocol.proofs.Answers.{joins-kept, goes_kept, stays-out-kept, stays-in-kept}
use Rattle.protocol.proofs.Denials.{denies-kept, drops-kept}
use Rattle.protocol.proofs.Notices.{takes-kept, ignores-kept}
use Rattle.protocol.proofs.Orders.{declares-kept, asks-kept, leaves_kept}
use Rattle.protocol.proofs.Single.{creates-kept, goes-alone-kept}
use Rattle.protocol.proofs.Grants.{granted, Grant, is-joiner, lets-in-kept, is-leaver, lets-go-kept}

-- what is kept from call to call
pub record Good (h : History) : Type 0 where
  pub well_formed : WellFormed h.state
  pub numbers : NumbersFit (node_at h.state) h.state.messages
  pub invariant : Invariant (node_at h.state) h.state.messages h.told h.joins
  -- R10.17: no request is lost
  pub none_lost : (u : ℕ) → count (is_exchange_of u) h.state.messages ≡ exchanges (status_at h.state u)
  pub accounts : h.posts ≡ posted_for h.grants h.denials h.state.messages

-- ---- a state as the invariant sees it
limited : {s : State} → WellFormed s → Limited (node_at s) s.messages
limited {s} w = record { most = λ u. go u (dec_lt u (length s.nodes)) }
  where
    go : (u : ℕ) → Dec (u < length s.nodes) → count (is_exchange_of u) s.messages ≤ exchanges (status_at s u)
    go u (yes k) = w.exchange u k
    go u (no k) = omega (arith, unconcerned (length s.nodes) u (omega arith) s.messages w.message)

-- ---- what is told
put-own : (f : ℕ → Bool) (u : ℕ) (b : Bool) → put f u b u ≡ b
put-own f u b = rw (eq-eqb u u refl)

put_other : (f : ℕ → Bool) (u : ℕ) (b : Bool) (v : ℕ) → v ≢ u → put f u b v ≡ f v
put_other f u b v d = rw (ne_eqb v u d)

pub put-true : (f : ℕ → Bool) (u v : ℕ) → (put f u true v ≡ true) ↔ ((f v ≡ true) ⊎ (v ≡ u))
put-true f u v =
    by_test (λ b. (b ≡ true) ↔ ((f v ≡ true) ⊎ (v ≡ u))) (eqb v u) _ _
    (λ t. (λ _. inr (eqb-true v u t), λ _. refl)) (λ d. (λ e. inl e, ⊎_elim (λ e. e) (λ e. absurd (eqb-false v u d e))))

pub put-false : (f : ℕ → Bool) (u v : ℕ) → (put f u false v ≡ true) ↔ ((f v ≡ true) × (v ≢ u))
put-false f u v =
    by_test (λ b. (b ≡ true) ↔ ((f v ≡ true) × (v ≢ u))) (eqb v u) _ _
    (λ t. (λ e. absurd (not-both e refl), λ k. absurd (k.1 (eqb-true v u t)))) (λ d. (λ e. (e, eqb-false v u d), λ k. k.0))

pub event_refused : (h : History) (call : Call) (n : Reason) → event_of h.state h.joins call (refusal n) ≡ stays
event_refused h (Order (Declare key)) n = refl
event_refused h (Order (Create u)) n = refl
event_refused h (Order (Join u p q)) n = refl
event_refused h (Order (Leave u)) n = refl
event_refused h (Deliver place) n = refl

joins-refused : (h : History) (call : Call) (n : Reason) → joins_after h call (refusal n) ≡ h.joins
joins-refused h (Order (Declare key)) n = refl
joins-refused h (Order (Create u)) n = refl
joins-refused h (Order (Join u p q)) n = refl
joins-refused h (Order (Leave u)) n = refl
joins-refused h (Deliver place) n = refl

-- ---- each call keeps the invariant
abbrev pub After : History → Call → Result → Type 0
After h call r = Invariant (node_at r.state) r.state.messages (told_after h.told (event_of h.state h.joins call r.said)) (joins_after h call r.said)

module _ (h : History) (g : Good h) where
  -- what the granting of a request shows
  pub granting-of : {v p new e : ℕ} {n k : Number} {rest : List Message} (q a b l : ℕ) → Taken h.state.messages (set_r v p new e n) rest → p < length h.state.nodes → Grants h.state p e k
      → Grant (node_at h.state) (listed (set h.state.nodes p (relinked (node_at h.state p) new n))) h.state.messages rest (rest ++ set_l p q a b ∷ set_r_ack p v l ∷ []) h.told h.joins v p new e n q a b l
  granting-of {v} {p} {rest = rest} q a b l t k gr = record {
    limited = limited g.well_formed;
    inv = g.invariant;
    taken = t;
    queue = granted rest p v q a b l;
    is_in = gr.is_in;
    right = gr.right;
    at = set_at h.state.nodes k;
  }

  -- the event that a granted request of v to p is, by what v asked for last
  pub granted-event : (place : ℕ) {m : Message} {v p new e : ℕ} {n : Number} {b : Bool} → message_at h.state place ≡ m → m ≡ set_r v p new e n → h.joins v ≡ b
      → grant_of h.joins (message_at h.state place) ≡ grant_of (λ _. b) (set_r v p new e n)
  granted-event place at em j = rw (at, em, j)

  -- a leaver whose request waits is declared, and has its right number
  number : {p new e : ℕ} {n : Number} {rest : List Message} (v : ℕ) → Taken h.state.messages (set_r v p new e n) rest
      → status_at h.state v ≡ Del → (node_at h.state v).rseq ≡ Some (seq_of (node_at h.state v).rseq)
  number v t del =
      let fits = message-facts (length h.state.nodes) _ (g.well_formed.message _ t.waits) in
      number-named (g.well_formed.node v (ltb-true v _ fits.sender)) (ap is_in_or_del del)

  act-holds : (place : ℕ) {m : Message} {rest : List Message} {r : Result} → message_at h.state place ≡ m → Taken h.state.messages m rest
      → m.to < length h.state.nodes → Act h.state m rest r → After h (Deliver place) r
  act-holds place at t k (drops p u a n em out er) = rw er (drops-kept g.invariant (set_at h.state.nodes (rw em at k)) out (rw em at t))
  act-holds place at t k (lets_in v p e n l em gr room er) =
      let c = granting-of e v (next_seq l) (next_seq l) (rw em at t) (rw em at k) gr in
      rw (er, granted-event place at em (g.invariant.exchanges.joiners v (is-joiner c)))
      (lets-in-kept c gr.number (put_other h.told v true) (put-own h.told v true))
  act-holds place at t k (lets_go v p new e n l em d gr er) =
      let c = granting-of new p n (capped_next l) (rw em at t) (rw em at k) gr in
      rw (er, granted-event place at em (g.invariant.exchanges.leavers v (is-leaver c d)))
      (lets-go-kept c d (number v (rw em at t) (is-leaver c d)) (put_other h.told v false) (put-own h.told v false))
  act-holds place at t k (denies v p new e n em er) = rw er (denies-kept g.invariant (set_at h.state.nodes (rw em at k)) v p new e n (rw em at t))
  act-holds place at t k (joins p u n em ins er) = rw er (joins-kept (limited g.well_formed) g.invariant n (rw em at t) ins (set_at h.state.nodes (rw em at k)))
  act-holds place at t k (goes p u n em del er) = rw er (goes_kept (limited g.well_formed) g.invariant n (rw em at t) del (set_at h.state.nodes (rw em at k)))
  act-holds place at t k (stays_out p u em ins er) = rw er (stays-out-kept (limited g.well_formed) g.invariant (rw em at t) ins (set_at h.state.nodes (rw em at k)))
  act-holds place at t k (stays_in p u em del er) = rw er (stays-in-kept (limited g.well_formed) g.invariant (rw em at t) del (set_at h.state.nodes (rw em at k)))
  act-holds place at t k (takes p u a n em out new er) = rw er (takes-kept (limited g.well_formed) g.invariant (rw em at t) new (set_at h.state.nodes (rw em at k)))
  act-holds place at t k (ignores p u a n em out old er) = rw er (ignores-kept (limited g.well_formed) g.invariant (rw em at t) old (set_at h.state.nodes (rw em at k)))

  -- what a waiting request names is declared
  known : (v p new e : ℕ) (n : Number) → set_r v p new e n ∈ h.state.messages → (v ≢ length h.state.nodes) × (p ≢ length h.state.nodes) × (e ≢ length h.state.nodes)
  known v p new e n i =
      let size = length h.state.nodes in
      let fits = message-facts size _ (g.well_formed.message _ i) in
      let below : (u : ℕ) → ltb u size ≡ true → u ≢ size = λ u k d. omega (arith, ltb-true u size k) in
      (below v fits.sender, below p fits.to, below e (both (ltb new size) (ltb e size) fits.kind).1)

  pub all-out : ((v : ℕ) → v < length h.state.nodes → status_at h.state v ≡ Out) → (v : ℕ) → status_at h.state v ≡ Out
  all-out out v = go (dec_lt v (length h.state.nodes))
    where
      go : Dec (v < length h.state.nodes) → status_at h.state v ≡ Out
      go (yes k) = out v k
      go (no k) = ap status_of (past h.state v (omega arith))

  accepted-holds : {call : Call} {r : Result} → Accepted h.state call r → After h call r
  accepted-holds (declares key ec d er) = rw (ec, er)
      (declares-kept g.invariant (ap status_of (past h.state (length h.state.nodes) (omega arith))) known (declared-at h.state key))
  accepted-holds (creates u ec c er) = rw (ec, er)
      (creates-kept (limited g.well_formed) g.invariant u (put_other h.told u true) (all-out c.all_out) c.no_notice (put-own h.told u true) (set_at h.state.nodes c.declared))
  accepted-holds (asks u p q ec j er) = rw (ec, er)
      (asks-kept (limited g.well_formed) g.invariant u (put_other h.joins u true) (peer_at h.state p) (peer_at h.state q) j.is_out (put-own h.joins u true) j.no_notice j.between (set_at h.state.nodes j.declared))
  accepted-holds (goes_alone u ec l er) = rw (ec, er)
      (goes-alone-kept (limited g.well_formed) g.invariant u (put_other h.told u false) (put_other h.joins u false) l.is_in l.alone (put-own h.told u false) (set_at h.state.nodes l.declared))
  accepted-holds (leaves u p q n ec l er) = rw (ec, er)
      (leaves_kept (limited g.well_formed) g.invariant u (put_other h.joins u false) p q n l.is_in (put-own h.joins u false) l.right l.not_alone l.number (set_at h.state.nodes l.declared))
  accepted-holds (delivers place m rest ec d act) = rw ec (act-holds place d.at d.taken d.declared act)

  pub call-holds : {call : Call} {r : Result} → Change h.state call r → After h call r
  call-holds {call} (refuses n er) = rw (er, event_refused h call n, joins-refused h call n) g.invariant
  call-holds (accepts a) = accepted-holds a
