-- What each event does to the ring. Who is inserted is read off what is told before and after; keys
-- and links off the case of the call that the event is; and the order is the one ascending list of
-- those inserted after, which the invariant says is a ring. Assumes nothing.
use Rattle.std.specs.Prelude.{Some}
use mathlib.Core.Path.{◌≡◌, refl, sym, ap, ◌∙◌}
use mathlib.Core.Logic.{◌⊎◌, inl, inr, ⊎_elim, ◌↔◌, ◌≢◌}
use mathlib.Core.Bool.{Bool, true, false}
use mathlib.Core.List.{List, [], ◌∷◌}
use Prim.Native.Nat.{ℕ, ◌<◌}
use native.Mathlib.Omega.{arith}
use lib.ListN.{length}
use Rattle.predicates.proofs.TestLaws.{◌∈◌, holds, is_true, not-both}
use Rattle.interval.proofs.Laws.{between_iff}
use Rattle.sequence.specs.Sequence.{Number, next_seq, capped_next}
use Rattle.links.specs.Ring.{Ascending, with_member, without_member}
use Rattle.links.proofs.Ring.{here, in-nil, in_one}
use Rattle.links.proofs.Places.{members_with, members-without, ascending-inserted, ascending-removed, one-of-key, one-order}
use Rattle.links.proofs.Circuit.{no-ring, one-ring, ascending-kept, ring-kept, alone-in}
use Rattle.parts.specs.declared.Status.TheVariants.{Out, In}
use Rattle.parts.specs.declared.Message.{Message}
use Rattle.node.specs.declared.Node.{Node}
use Rattle.protocol.specs.declared.Call.{Call}
use Rattle.protocol.specs.declared.Call.TheVariants.{Deliver}
use Rattle.protocol.specs.State.{State, node_at, status_at, key_at, right_at, inserted}
use Rattle.protocol.specs.Calls.{Result, message_at}
use Rattle.protocol.specs.Events.{Event, stays, founded, admitted, released, emptied, event_of, put}
use Rattle.protocol.specs.History.{History, start, happened, advanced, history}
use Rattle.protocol.specs.Claim.{Inserted}
use Rattle.protocol.specs.EventClaim.{Ordered, OrderClaim, Stays, Founds, Admits, Releases, Empties, Happened, EventClaim, order_after, OrderGoesByEvents}
use Rattle.protocol.proofs.Nodes.{At, unchanged, set_at, declared-at, past}
use Rattle.protocol.proofs.Waiting.{Taken}
use Rattle.protocol.proofs.Fields.{status_of, key_of, right_of}
use Rattle.protocol.proofs.Changes.{Act, drops, lets_in, lets_go, denies, joins, goes, stays_out, stays_in, takes, ignores}
use Rattle.protocol.proofs.Changes.{Accepted, declares, creates, asks, goes_alone, leaves, delivers, Change, refuses, accepts}
use Rattle.protocol.proofs.Cases.{change}
use Rattle.protocol.proofs.Drains.{run_append}
use Rattle.protocol.proofs.Invariant.{Round, Invariant}
use Rattle.protocol.proofs.Frames.{settled_in, member-same, member_not_out}
use Rattle.protocol.proofs.Grants.{Grant, granting, is-joiner, to-join, not-yet-in, joiner-right, is-leaver, to-leave, still-in}
use Rattle.protocol.proofs.Steps.{put-true, put-false, Good, After, event_refused, granting-of, granted-event, all-out}
use Rattle.protocol.proofs.Theorem.{good-next, good, listed-inserted}

-- ---- the order of a state
-- what the invariant says of the inserted nodes of s
abbrev Holds : State → (ℕ → Bool) → Type 0
Holds s told = Round (node_at s) s.messages told

pub ordered : (s : State) {told : ℕ → Bool} (o : Holds s told) → Ordered s o.order
ordered s o = record { ring = o.ring; members = listed-inserted s o }

-- a list of the inserted nodes, ascending by the keys that they had, is their order
in_order : (s s' : State) {told : ℕ → Bool} → Holds s' told → ((u : ℕ) → key_at s' u ≡ key_at s u) → (L : List ℕ) → Ascending (key_at s) L
    → ((u : ℕ) → (u ∈ L) ↔ Inserted s' u) → Ordered s' L
in_order s s' o' keys L asc members =
    let own = listed-inserted s' o' in
    let asc' = ascending-kept (key_at s) (key_at s') L (λ u _. keys u) asc in
    let e = one-order (key_at s') o'.order L o'.ring.ascending asc' (λ u. (λ i. (members u).1 ((own u).0 i), λ i. (own u).1 ((members u).0 i))) in
    record { ring = rw e at o'.ring; members = members }

same-order : (s : State) {L M : List ℕ} → Ordered s L → Ordered s M → L ≡ M
same-order s {L} {M} k l =
    one-order (key_at s) L M k.ring.ascending l.ring.ascending (λ u. (λ i. (l.members u).1 ((k.members u).0 i), λ i. (k.members u).1 ((l.members u).0 i)))

-- ---- who is inserted: read off what is told
told-inserted : (s : State) {told : ℕ → Bool} → Holds s told → (u : ℕ) → (told u ≡ true) ↔ Inserted s u
unfolding inserted
told-inserted s o u = (λ e. holds (sym (o.as_told u) ∙ e), λ t. o.as_told u ∙ is_true _ t)

inserted_is_not_out : (s : State) (u : ℕ) → Inserted s u → status_at s u ≢ Out
unfolding inserted
inserted_is_not_out s u t = member_not_out (node_at s) s.messages u (is_true _ t)

module _ (s s' : State) {told : ℕ → Bool} (o : Holds s told) where
  as_before : Holds s' told → (u : ℕ) → Inserted s' u ↔ Inserted s u
  as_before o' u =
      let was = told-inserted s o u in
      let is = told-inserted s' o' u in
      (λ t. was.0 (is.1 t), λ t. is.0 (was.1 t))

  and_one : {v : ℕ} → Holds s' (put told v true) → (u : ℕ) → Inserted s' u ↔ (Inserted s u ⊎ (u ≡ v))
  and_one {v} o' u =
      let was = told-inserted s o u in
      let is = told-inserted s' o' u in
      let told = put-true told v u in
      (λ t. ⊎_elim (λ e. inl (was.0 e)) inr (told.0 (is.1 t)), λ t. is.0 (told.1 (⊎_elim (λ i. inl (was.1 i)) inr t)))

  but-one : {v : ℕ} → Holds s' (put told v false) → (u : ℕ) → Inserted s' u ↔ (Inserted s u × (u ≢ v))
  but-one {v} o' u =
      let was = told-inserted s o u in
      let is = told-inserted s' o' u in
      let told = put-false told v u in
      (λ t. let k = told.0 (is.1 t) in (was.0 k.0, k.1), λ t. is.0 (told.1 (was.1 t.0, t.1)))

-- ---- stays
module _ {s s' : State} {told : ℕ → Bool} (o : Holds s told) where
  unmoved : Holds s' told → ((u : ℕ) → Inserted s u → key_at s' u ≡ key_at s u) → ((u : ℕ) → Inserted s u → right_at s' u ≡ right_at s u) → Stays s s'
  unmoved o' keys rights =
      let same = as_before s s' o o' in
      record {
        inserted = same;
        keys = keys;
        rights = rights;
        order = λ L k. record {
          ring = ring-kept k.ring (λ u i. keys u ((k.members u).0 i)) (λ u i. rights u ((k.members u).0 i));
          members = λ u. (λ i. (same u).1 ((k.members u).0 i), λ t. (k.members u).1 ((same u).0 t));
        };
      }

  -- one node stands anew that was out
  was-out : {i : ℕ} {x : Node} → At (node_at s) i x (node_at s') → status_at s i ≡ Out → Holds s' told → Stays s s'
  was-out {i} at out o' = unmoved o' (λ u t. ap key_of (same u t)) (λ u t. ap right_of (same u t))
    where
      same : (u : ℕ) → Inserted s u → node_at s' u ≡ node_at s u
      same u t = at.others u (λ e. inserted_is_not_out s u t (ap (status_at s) e ∙ out))

-- ---- founded and emptied
ordered-none : {s : State} → ((w : ℕ) → ¬ Inserted s w) → Ordered s []
ordered-none none = record { ring = no-ring; members = λ w. (λ i. absurd (in-nil i), λ t. absurd (none w t)) }

ordered-one : {s : State} {u : ℕ} → right_at s u ≡ Some u → ((w : ℕ) → Inserted s w ↔ (w ≡ u)) → Ordered s (u ∷ [])
ordered-one right alone = record { ring = one-ring right; members = λ w. (λ i. (alone w).1 (in_one i), λ t. here ((alone w).0 t)) }

module _ {s s' : State} {told : ℕ → Bool} (o : Holds s told) where
  founds : {u : ℕ} → Holds s' (put told u true) → ((w : ℕ) → status_at s w ≡ Out) → key_at s' u ≡ key_at s u → right_at s' u ≡ Some u → Founds s s' u
  founds {u} o' out key right = record {
    none_before = none;
    inserted = alone;
    key = key;
    right = right;
    order_before = ordered-none none;
    order = ordered-one right alone;
  }
    where
      none : (w : ℕ) → ¬ Inserted s w
      none w t = inserted_is_not_out s w t (out w)

      alone : (w : ℕ) → Inserted s' w ↔ (w ≡ u)
      alone w = let now = and_one s s' o o' w in (λ t. ⊎_elim (λ b. absurd (none w b)) (λ e. e) (now.0 t), λ e. now.1 (inr e))

  empties : {u : ℕ} → Holds s' (put told u false) → status_at s u ≡ In → right_at s u ≡ Some u → Empties s s' u
  empties {u} o' is-in right = record {
    alone_before = alone;
    right_before = right;
    none = none;
    order_before = ordered-one right alone;
    order = ordered-none none;
  }
    where
      own : u ∈ o.order
      own = (o.members u).1 (member-same is-in refl)

      alone : (w : ℕ) → Inserted s w ↔ (w ≡ u)
      alone w = (λ t. alone-in o.ring own right w ((listed-inserted s o w).1 t), λ e. rw e ((listed-inserted s o u).0 own))

      none : (w : ℕ) → ¬ Inserted s' w
      none w t = let b = (but-one s s' o o' w).0 t in b.1 ((alone w).0 b.0)

-- ---- admitted
module _ {s s' : State} {rest : List Message} {told joins : ℕ → Bool} {v p e n q a k l : ℕ} (c : Grant (node_at s) (node_at s') s.messages rest s'.messages told joins v p v e n q a k l)
    (o' : Holds s' (put told v true)) where
  admits : Admits s s' v p
  unfolding inserted
  admits = record {
    next = e;
    new = new;
    behind = holds (granting c);
    right_before = c.right;
    between_keys = (between_iff _ _ _).1 (to-join c).between;
    inserted = now;
    keys = λ u _. keys u;
    right_of_p = ap right_of c.at.self;
    right_of_v = joiner-right c;
    rights = λ u _ d. ap right_of (c.at.others u d);
    order = order;
  }
    where
      new : ¬ Inserted s v
      new t = not-both (is_true _ t) (not-yet-in c)

      now : (u : ℕ) → Inserted s' u ↔ (Inserted s u ⊎ (u ≡ v))
      now = and_one s s' c.inv.order o'

      keys : (u : ℕ) → key_at s' u ≡ key_at s u
      keys = unchanged c.at key_of refl

      order : (L : List ℕ) → Ordered s L → Ordered s' (with_member (key_at s) v L)
      order L k = in_order s s' o' keys (with_member (key_at s) v L) (ascending-inserted (key_at s) v L k.ring.ascending fresh) members
        where
          members : (u : ℕ) → (u ∈ with_member (key_at s) v L) ↔ Inserted s' u
          members u =
              let put = members_with (key_at s) v L u in
              (λ i. (now u).1 (⊎_elim (λ j. inl ((k.members u).0 j)) inr (put.0 i)), λ t. put.1 (⊎_elim (λ j. inl ((k.members u).1 j)) inr ((now u).0 t)))

          -- the keys of two that are inserted now differ
          fresh : (u : ℕ) → u ∈ L → key_at s u ≢ key_at s v
          fresh u i f =
              let t = (k.members u).0 i in
              let listed = listed-inserted s' o' in
              let same = one-of-key (key_at s') o'.ring.ascending ((listed u).1 ((now u).1 (inl t))) ((listed v).1 ((now v).1 (inr refl))) (keys u ∙ f ∙ sym (keys v)) in
              new (rw same at t)

-- ---- released
module _ {s s' : State} {rest : List Message} {told joins : ℕ → Bool} {v p new e : ℕ} {n : Number} {q a : ℕ} {k l : Number} (c : Grant (node_at s) (node_at s') s.messages rest s'.messages told joins v p new e n q a k l)
    (another : new ≢ v) (o' : Holds s' (put told v false)) where
  releases : Releases s s' v p
  unfolding inserted
  releases = record {
    next = new;
    leaver = holds (still-in c another);
    behind = holds (granting c);
    differ = λ f. settled_in.1 (sym c.is_in ∙ ap (status_at s) f ∙ is-leaver c another);
    right_before = c.right ∙ ap Some (to-leave c another).expected;
    right_of_v = (to-leave c another).right;
    inserted = now;
    keys = λ u _. keys u;
    right_of_p = ap right_of c.at.self;
    rights = λ u _ d. ap right_of (c.at.others u d);
    order = λ L k. in_order s s' o' keys (without_member v L) (ascending-removed (key_at s) v L k.ring.ascending) (members L k);
  }
    where
      now : (u : ℕ) → Inserted s' u ↔ (Inserted s u × (u ≢ v))
      now = but-one s s' c.inv.order o'

      keys : (u : ℕ) → key_at s' u ≡ key_at s u
      keys = unchanged c.at key_of refl

      members : (L : List ℕ) → Ordered s L → (u : ℕ) → (u ∈ without_member v L) ↔ Inserted s' u
      members L k u =
          let left = members-without v L u in
          (λ i. let j = left.0 i in (now u).1 ((k.members u).0 j.0, j.1), λ t. let b = (now u).0 t in left.1 ((k.members u).1 b.0, b.1))

-- ---- which event a call is
abbrev Does : History → Call → Result → Type 0
Does h call r = Happened h.state r.state (event_of h.state h.joins call r.said)

module _ (h : History) (g : Good h) where
  -- one node stands anew, with the key and the right link that it had
  kept : {s' : State} {i : ℕ} {x : Node} {joins' : ℕ → Bool} → At (node_at h.state) i x (node_at s') → x.key ≡ key_at h.state i → x.right ≡ right_at h.state i
      → Invariant (node_at s') s'.messages h.told joins' → Stays h.state s'
  kept at key right after = unmoved g.invariant.order after.order (λ u _. unchanged at key_of key u) (λ u _. unchanged at right_of right u)

  act-does : (place : ℕ) {m : Message} {rest : List Message} {r : Result} → message_at h.state place ≡ m → Taken h.state.messages m rest
      → m.to < length h.state.nodes → After h (Deliver place) r → Act h.state m rest r → Does h (Deliver place) r
  act-does place at t k after (drops p u a n em out er) = rw er (kept (set_at h.state.nodes (rw em at k)) refl refl (rw er at after))
  act-does place at t k after (lets_in v p e n l em gr room er) =
      let c = granting-of h g e v (next_seq l) (next_seq l) (rw em at t) (rw em at k) gr in
      let event = granted-event h g place at em (g.invariant.exchanges.joiners v (is-joiner c)) in
      rw (er, event) (admits c (rw (er, event) at after).order)
  act-does place at t k after (lets_go v p new e n l em d gr er) =
      let c = granting-of h g new p n (capped_next l) (rw em at t) (rw em at k) gr in
      let event = granted-event h g place at em (g.invariant.exchanges.leavers v (is-leaver c d)) in
      rw (er, event) (releases c d (rw (er, event) at after).order)
  act-does place at t k after (denies v p new e n em er) = rw er (kept (set_at h.state.nodes (rw em at k)) refl refl (rw er at after))
  act-does place at t k after (joins p u n em ins er) = rw er (kept (set_at h.state.nodes (rw em at k)) refl refl (rw er at after))
  act-does place at t k after (goes p u n em del er) = rw er (kept (set_at h.state.nodes (rw em at k)) refl refl (rw er at after))
  act-does place at t k after (stays_out p u em ins er) = rw er (kept (set_at h.state.nodes (rw em at k)) refl refl (rw er at after))
  act-does place at t k after (stays_in p u em del er) = rw er (kept (set_at h.state.nodes (rw em at k)) refl refl (rw er at after))
  act-does place at t k after (takes p u a n em out new er) = rw er (kept (set_at h.state.nodes (rw em at k)) refl refl (rw er at after))
  act-does place at t k after (ignores p u a n em out old er) = rw er (kept (set_at h.state.nodes (rw em at k)) refl refl (rw er at after))

  accepted-does : {call : Call} {r : Result} → After h call r → Accepted h.state call r → Does h call r
  accepted-does after (declares key ec d er) = rw (ec, er)
      (was-out g.invariant.order (declared-at h.state key) (ap status_of (past h.state (length h.state.nodes) (omega arith))) (rw (ec, er) at after).order)
  accepted-does after (creates u ec c er) =
      let at = set_at h.state.nodes c.declared in
      rw (ec, er) (founds g.invariant.order (rw (ec, er) at after).order (all-out h g c.all_out) (ap key_of at.self) (ap right_of at.self))
  accepted-does after (asks u p q ec j er) = rw (ec, er) (was-out g.invariant.order (set_at h.state.nodes j.declared) j.is_out (rw (ec, er) at after).order)
  accepted-does after (goes_alone u ec l er) = rw (ec, er) (empties g.invariant.order (rw (ec, er) at after).order l.is_in l.alone)
  accepted-does after (leaves u p q n ec l er) = rw (ec, er) (kept (set_at h.state.nodes l.declared) refl refl (rw (ec, er) at after))
  accepted-does after (delivers place m rest ec d act) = rw ec (act-does place d.at d.taken d.declared (rw ec at after) act)

  does : {call : Call} {r : Result} → After h call r → Change h.state call r → Does h call r
  does {call} after (refuses n er) = rw (er, event_refused h call n) (unmoved g.invariant.order g.invariant.order (λ u _. refl) (λ u _. refl))
  does after (accepts a) = accepted-does after a

  -- of the next call
  pub next-happened : (call : Call) → Happened h.state (advanced h call).state (happened h call)
  next-happened call = does (good-next h g call).invariant (change h.state call)

-- ---- the claims
pub has_one_order : OrderClaim
has_one_order calls =
    let s = (history calls).state in
    let o = (good calls).invariant.order in
    record { order = o.order; ordered = ordered s o; only = λ L k. same-order s k (ordered s o) }

pub each_event : EventClaim
each_event calls call = rw (run_append start calls (call ∷ [])) (next-happened (history calls) (good calls) call)

pub order-goes-by-events : OrderGoesByEvents
order-goes-by-events calls call = go (happened (history calls) call) (each_event calls call)
  where
    go : {s s' : State} (event : Event) → Happened s s' event → (L : List ℕ) → Ordered s L → Ordered s' (order_after (key_at s) L event)
    go stays e L k = e.order L k
    go (founded u) e L k = e.order
    go (admitted v p) e L k = e.order L k
    go (released v p) e L k = e.order L k
    go (emptied u) e L k = e.order
