-- The invariant holds after the delivery of a request that is granted. A joiner is put into the
-- ring between the granting node and its right link; a leaver is taken out of it. Either way one
-- link into one node q is new, the number kept for it is the next one, and the notice posted to q
-- says so. Assumes nothing.
use Rattle.std.specs.Prelude.{Some}
use mathlib.Core.Path.{◌≡◌, refl, sym, ap, ◌∙◌}
use mathlib.Core.Logic.{◌⊎◌, inl, inr, ⊎_elim, ◌≢◌}
use mathlib.Core.Bool.{Bool, true, false}
use mathlib.Core.List.Memᴰ.{append_left as in_left}
use mathlib.Core.List.Memᴰ.{append_right as in_right}
use mathlib.Core.List.{List, [], ◌∷◌, ◌++◌}
use Prim.Native.Nat.{ℕ}
use native.Mathlib.Decide.{ℕ_discrete}
use borrow.Author.Tests.{eq-eqb, ne_eqb}
use Rattle.predicates.specs.Tests.{any}
use Rattle.predicates.proofs.TestLaws.{◌∈◌, not-both, any-in}
use Rattle.sequence.specs.Sequence.{Number, next_seq}
use Rattle.sequence.proofs.Laws.{Newer, newer_irreflexive, newer_transitive, next-newer}
use Rattle.links.proofs.Ring.{here, there, With, Without}
use Rattle.links.proofs.Circuit.{ring-kept, next-in, one-predecessor}
use Rattle.links.proofs.Change.{insert, remove}
use Rattle.links.proofs.Trails.{same_end}
use Rattle.parts.specs.declared.Status.{Status}
use Rattle.parts.specs.declared.Status.TheVariants.{Ins, In, Del}
use Rattle.parts.specs.declared.Kind.TheVariants.{SetRAck, SetL}
use Rattle.parts.specs.declared.Message.{Message}
use Rattle.node.specs.declared.Node.{Node}
use Rattle.node.specs.Actions.{set_r, set_r_ack, set_l, relinked}
use Rattle.protocol.specs.State.{is_ack_to}
use Rattle.parts.specs.Tests.{is_ack, is_notice, is_request}
use Rattle.protocol.proofs.Nodes.{At, unchanged}
use Rattle.protocol.proofs.Waiting.{Taken, Limited, apart, in_two, same-any, request-exchange, ack-exchange, only-exchange, no-ack, waits-for, acks-left}
use Rattle.protocol.proofs.Fields.{status_of, key_of, left_of, right_of, lseq_of, rseq_of, kind_of, to_of}
use Rattle.protocol.proofs.Invariant.{is_member, Member, ByJoiner, ByLeaver, Request, Exchanges, Keeps, stored, coming, LeftLink, Invariant}
use Rattle.protocol.proofs.Frames.{settled_in, ins_not_del, member-same, request-same, keeps_same, left-same}

-- node p has granted v's request: a notice (a, k) to q and the answer l to v have come to those
-- that wait
pub record Granted (rest M' : List Message) (p v q a : ℕ) (k l : Number) : Type 0 where
  pub still : (x : Message) → x ∈ rest → x ∈ M'
  pub notice : set_l p q a k ∈ M'
  pub answer : set_r_ack p v l ∈ M'
  pub requests : (w u b d : ℕ) (n : Number) → set_r w u b d n ∈ M' → set_r w u b d n ∈ rest
  pub notices : (w u b : ℕ) (n : Number) → set_l w u b n ∈ M' → (set_l w u b n ∈ rest) ⊎ ((u ≡ q) × (b ≡ a) × (n ≡ k))
  pub acks : (w u : ℕ) (n : Number) → set_r_ack w u n ∈ M' → (set_r_ack w u n ∈ rest) ⊎ ((u ≡ v) × (n ≡ l))
  pub acks_to : (u : ℕ) (x : Message) → u ≢ v → is_ack_to u x ≡ true → x ∈ M' → x ∈ rest

pub granted : (rest : List Message) (p v q a : ℕ) (k l : Number) → Granted rest (rest ++ set_l p q a k ∷ set_r_ack p v l ∷ []) p v q a k l
granted rest p v q a k l = record {
  still = λ x j. in_left _ j;
  notice = in_right rest (here refl);
  answer = in_right rest (there (here refl));
  requests = λ w u b d n j. ⊎_elim (λ i. i) (⊎_elim (λ e. absurd (apart (λ y. is_request y.kind) refl refl e)) (λ e. absurd (apart (λ y. is_request y.kind) refl refl e))) (in_two rest j);
  notices = λ w u b n j. ⊎_elim (λ i. inl i) (⊎_elim (λ e. inr (same-notice w u b n e)) (λ e. absurd (apart (λ y. is_notice y.kind) refl refl e))) (in_two rest j);
  acks = λ w u n j. ⊎_elim (λ i. inl i) (⊎_elim (λ e. absurd (apart (λ y. is_ack y.kind) refl refl e)) (λ e. inr (same-ack w u n e))) (in_two rest j);
  acks_to = λ u x d b j. ⊎_elim (λ i. i) (⊎_elim (λ f. absurd (apart (is_ack_to u) b refl f)) (λ f. absurd (apart (is_ack_to u) b (ne_eqb v u (λ g. d (sym g))) f))) (in_two rest j);
}
  where
    same-notice : (w u b : ℕ) (n : Number) → set_l w u b n ≡ set_l p q a k → (u ≡ q) × (b ≡ a) × (n ≡ k)
    same-notice w u b n e = let f : SetL b n ≡ SetL a k = ap kind_of e in (ap to_of e, (cc), (cc))

    same-ack : (w u : ℕ) (n : Number) → set_r_ack w u n ≡ set_r_ack p v l → (u ≡ v) × (n ≡ l)
    same-ack w u n e = let f : SetRAck n ≡ SetRAck l = ap kind_of e in (ap to_of e, (cc))

-- ---- what both grants have in common
-- node p, which is in, has granted v's request and is relinked; q is the node whose left link is to
-- change
pub record Grant (N N' : ℕ → Node) (M rest M' : List Message) (told joins : ℕ → Bool) (v p new e : ℕ) (n : Number) (q a : ℕ) (k l : Number) : Type 0 where
  pub limited : Limited N M
  pub inv : Invariant N M told joins
  pub taken : Taken M (set_r v p new e n) rest
  pub queue : Granted rest M' p v q a k l
  pub is_in : (N p).status ≡ In
  pub right : (N p).right ≡ Some e
  pub at : At N p (relinked (N p) new n) N'

module _ {N N' : ℕ → Node} {M rest M' : List Message} {told joins : ℕ → Bool} {v p new e : ℕ} {n : Number} {q a : ℕ} {k l : Number} (c : Grant N N' M rest M' told joins v p new e n q a k l) where
  status : (u : ℕ) → (N' u).status ≡ (N u).status
  status = unchanged c.at status_of refl

  -- v waits with this request and no answer
  waiting : Request N v p new e n
  waiting = c.inv.exchanges.requests v p new e n c.taken.waits

  waits : ((N v).status ≡ Ins) ⊎ ((N v).status ≡ Del)
  waits = waits-for c.limited v c.taken.waits (request-exchange v p new e n)

  no_answer : any (is_ack_to v) M ≡ false
  no_answer = no-ack c.limited v c.taken (request-exchange v p new e n) refl

  pub granting : Member N M p
  granting = member-same c.is_in refl

  not-granting : (s : Status) → In ≢ s → (u : ℕ) → (N u).status ≡ s → u ≢ p
  not-granting s d u h f = d (sym c.is_in ∙ ap (λ w. (N w).status) (sym f) ∙ h)

  acked : any (is_ack_to v) M' ≡ true
  acked = any-in (is_ack_to v) c.queue.answer (eq-eqb v v refl)

  same-member : (u : ℕ) → u ≢ v → is_member N' M' u ≡ is_member N M u
  same-member u d = member-same (status u) (same-any (is_ack_to u) M' rest (λ y b j. c.queue.acks_to u y d b j) (λ y _ j. c.queue.still y j) ∙ acks-left u c.taken refl)

  exchanges-kept : Member N M q → ((N v).status ≡ Ins → is_member N' M' v ≡ true) → Exchanges N' M' joins
  exchanges-kept member-q own = record {
    joiners = λ u h. c.inv.exchanges.joiners u (sym (status u) ∙ h);
    leavers = λ u h. c.inv.exchanges.leavers u (sym (status u) ∙ h);
    requests = λ w u b d m j. request w u b d m (c.taken.left _ (c.queue.requests w u b d m j)) (ℕ_discrete w p);
    quiet = λ w u b m h f j. quiet w u b m (sym (status u) ∙ h) f j (ℕ_discrete u v);
  }
    where
      keys : (u : ℕ) → (N' u).key ≡ (N u).key
      keys = unchanged c.at key_of refl

      request : (w u b d : ℕ) (m : Number) → set_r w u b d m ∈ M → Dec (w ≡ p) → Request N' w u b d m
      request w u b d m j (yes f) = record {
        by_joiner = λ h. absurd (not-granting Ins settled_in.0 w (sym (status w) ∙ h) f);
        by_leaver = λ h. absurd (not-granting Del settled_in.1 w (sym (status w) ∙ h) f);
      }
      request w u b d m j (no f) = request-same (c.at.others w f) (keys u) (keys d) (c.inv.exchanges.requests w u b d m j)

      quiet : (w u b : ℕ) (m : Number) → (N u).status ≡ Ins → is_member N' M' u ≡ false → set_l w u b m ∈ M' → Dec (u ≡ v) → ⊥
      quiet w u b m h f j (yes d) = not-both (own (ap (λ w. (N w).status) (sym d) ∙ h)) (ap (is_member N' M') (sym d) ∙ f)
      quiet w u b m h f j (no d) =
          let before : is_member N M u ≡ false = sym (same-member u d) ∙ f in
          ⊎_elim (λ i. c.inv.exchanges.quiet w u b m h before (c.taken.left _ i)) (λ z. not-both member-q (ap (is_member N M) (sym z.0) ∙ before)) (c.queue.notices w u b m j)

  -- the links into other nodes than q
  other-link : (w u R : ℕ) → u ≢ q → LeftLink N M w u R → LeftLink N' M' w u R
  other-link w u R d = left-same (unchanged c.at lseq_of refl u) (unchanged c.at left_of refl u)
      (λ x b m j. ⊎_elim (λ i. c.taken.left _ i) (λ z. absurd (d z.0)) (c.queue.notices x u b m j))
      (λ x b m j. c.queue.still _ (⊎_elim (λ f. absurd (apart (λ y. is_notice y.kind) refl refl f)) (λ i. i) (c.taken.either _ j)))

  other-keeps : (w R : ℕ) → w ≢ p → w ≢ v → Keeps N' M' w R → Keeps N M w R
  other-keeps w R dp dv = keeps_same (status w) (ap rseq_of (c.at.others w dp)) (λ x j. ⊎_elim (λ i. c.taken.left _ i) (λ z. absurd (dv z.0)) (c.queue.acks x w R j))

  -- the new link into q, from a, where the old one had the number R
  new-link : (o R : ℕ) → k ≡ next_seq R → LeftLink N M o q R → LeftLink N' M' a q k
  new-link o R next old = record {
    reached = λ h. old.reached (passed (N q).lseq (rw (lseq, next) at h));
    noticed = λ w b m j h. ⊎_elim (λ i. old.noticed w b m (c.taken.left _ i) (passed m (rw next at h))) (λ z. newer_irreflexive k (rw z.2 at h)) (c.queue.notices w q b m j);
    named = λ w b j. ⊎_elim (λ i. absurd (old.noticed w b k (c.taken.left _ i) (rw next (next-newer R)))) (λ z. z.1) (c.queue.notices w q b k j);
    current = λ h. absurd (old.reached (rw (sym lseq ∙ h ∙ next) (next-newer R)));
    awaited = λ _. (p, a, c.queue.notice);
  }
    where
      lseq : (N' q).lseq ≡ (N q).lseq
      lseq = unchanged c.at lseq_of refl q

      passed : (m : ℕ) → Newer m (next_seq R) → Newer m R
      passed m h = newer_transitive m (next_seq R) R h (next-newer R)

  -- p is in the ring, and so is whom it links to
  p-in : p ∈ c.inv.order.order
  p-in = (c.inv.order.members p).1 granting

  e-member : Member N M e
  e-member = (c.inv.order.members e).0 (next-in c.inv.order.ring p-in c.right)

  -- the number that p keeps now is the request's
  granting-keeps : (R : ℕ) → Keeps N' M' p R → R ≡ n
  granting-keeps R (stored f h) = let same : Some n ≡ Some R = sym (ap rseq_of c.at.self) ∙ h in cc
  granting-keeps R (coming h x j) = absurd (settled_in.0 (sym (status p ∙ c.is_in) ∙ h))

  -- a member x that is neither p nor v links where it did; were that q, then x would be the one
  -- that linked there
  link-kept : (x u R o : ℕ) → x ≢ p → x ≢ v → Member N' M' x → (N' x).right ≡ Some u → Keeps N' M' x R → o ∈ c.inv.order.order → (N o).right ≡ Some q → x ≢ o → LeftLink N' M' x u R
  link-kept x u R o dp dv m r j i out d =
      let member : Member N M x = sym (same-member x dv) ∙ m in
      let before : (N x).right ≡ Some u = sym (ap right_of (c.at.others x dp)) ∙ r in
      other-link x u R
      (λ h. d (one-predecessor c.inv.order.ring ((c.inv.order.members x).1 member) i (before ∙ ap Some h) out))
      (c.inv.order.lefts x u R member before (other-keeps x R dp dv j))

-- ---- a joiner is let in
module _ {N N' : ℕ → Node} {M rest M' : List Message} {told joins : ℕ → Bool} {v p e n q a k l : ℕ} (c : Grant N N' M rest M' told joins v p v e n q a k l) where
  pub is-joiner : (N v).status ≡ Ins
  is-joiner = ⊎_elim (λ h. h) (λ h. absurd (((waiting c).by_leaver h).another refl)) (waits c)

  pub to-join : ByJoiner N v p v e n
  to-join = (waiting c).by_joiner is-joiner

  pub not-yet-in : is_member N M v ≡ false
  not-yet-in = member-same is-joiner (no_answer c)

  pub joiner-right : (N' v).right ≡ Some e
  joiner-right = ap right_of (c.at.others v (not-granting c Ins settled_in.0 v is-joiner)) ∙ to-join.right

module _ {N N' : ℕ → Node} {M rest M' : List Message} {told told' joins : ℕ → Bool} {v p e : ℕ} {n k : Number} (c : Grant N N' M rest M' told joins v p v e n e v (next_seq k) (next_seq k))
    (number : (N p).rseq ≡ Some k) (others-told : (u : ℕ) → u ≢ v → told' u ≡ told u) (own-told : told' v ≡ true) where
  pub lets-in-kept : Invariant N' M' told' joins
  lets-in-kept = record {
    exchanges = exchanges-kept c (e-member c) (λ _. own);
    order = record {
      order = w.order;
      ring = ring-kept w.ring (λ u _. unchanged c.at key_of refl u) (λ u _. refl);
      members = λ u. (λ j. to u (ℕ_discrete u v) ((w.members u).0 j), λ m. (w.members u).1 (from u m (ℕ_discrete u v)));
      as_told = λ u. as_told u (ℕ_discrete u v);
      lefts = λ x u R m r j. lefts x u R m r j (ℕ_discrete x v) (ℕ_discrete x p);
    };
  }
    where
      ins : (N v).status ≡ Ins
      ins = is-joiner c

      asked : ByJoiner N v p v e n
      asked = to-join c

      not_yet : is_member N M v ≡ false
      not_yet = not-yet-in c

      own : is_member N' M' v ≡ true
      own = member-same (status c v ∙ ins) (acked c)

      right-v : (N' v).right ≡ Some e
      right-v = joiner-right c

      right-p : (N' p).right ≡ Some v
      right-p = ap right_of c.at.self

      w : With (λ u. (N u).key) (λ u. (N' u).right) c.inv.order.order v
      w = insert c.inv.order.ring (p-in c) (λ j. not-both ((c.inv.order.members v).0 j) not_yet) c.right right-p right-v (λ m d _. ap right_of (c.at.others m d)) asked.between

      to : (u : ℕ) → Dec (u ≡ v) → (u ∈ c.inv.order.order) ⊎ (u ≡ v) → Member N' M' u
      to u (yes d) s = ap (is_member N' M') d ∙ own
      to u (no d) s = same-member c u d ∙ ⊎_elim (λ j. (c.inv.order.members u).0 j) (λ f. absurd (d f)) s

      from : (u : ℕ) → Member N' M' u → Dec (u ≡ v) → (u ∈ c.inv.order.order) ⊎ (u ≡ v)
      from u m (yes d) = inr d
      from u m (no d) = inl ((c.inv.order.members u).1 (sym (same-member c u d) ∙ m))

      as_told : (u : ℕ) → Dec (u ≡ v) → told' u ≡ is_member N' M' u
      as_told u (yes d) = rw d (own-told ∙ sym own)
      as_told u (no d) = others-told u d ∙ c.inv.order.as_told u ∙ sym (same-member c u d)

      -- the joiner's number is the one that the answer brings it
      joiner-keeps : (R : ℕ) → Keeps N' M' v R → R ≡ next_seq k
      joiner-keeps R (stored f h) = absurd (f (status c v ∙ ins))
      joiner-keeps R (coming h x j) = ⊎_elim (λ i. absurd (not-both (ack-exchange x v R) (only-exchange c.limited v c.taken (request-exchange v p v e n) i))) (λ z. z.1) (c.queue.acks x v R j)

      no_notice : (x b m : ℕ) → ¬ (set_l x v b m ∈ M')
      no_notice x b m j =
          ⊎_elim (λ i. c.inv.exchanges.quiet x v b m ins not_yet (c.taken.left _ i)) (λ z. not-both (e-member c) (ap (is_member N M) (sym z.0) ∙ not_yet)) (c.queue.notices x v b m j)

      to-joiner : (R : ℕ) → R ≡ (N v).lseq → LeftLink N' M' p v R
      to-joiner R h =
          let lseq : (N' v).lseq ≡ R = unchanged c.at lseq_of refl v ∙ sym h in
          record {
            reached = rw lseq (newer_irreflexive R);
            noticed = λ x b m j. absurd (no_notice x b m j);
            named = λ x b j. absurd (no_notice x b R j);
            current = λ _. unchanged c.at left_of refl v ∙ asked.left;
            awaited = λ d. absurd (d lseq);
          }

      lefts : (x u R : ℕ) → Member N' M' x → (N' x).right ≡ Some u → Keeps N' M' x R → Dec (x ≡ v) → Dec (x ≡ p) → LeftLink N' M' x u R
      lefts x u R m r j (yes d) o =
          let at-e : u ≡ e = same_end r (ap (λ y. (N' y).right) d ∙ right-v) in
          let next : R ≡ next_seq k = joiner-keeps R (rw d at j) in
          rw (d, at-e, next) (new-link c p k refl (c.inv.order.lefts p e k (granting c) c.right (stored (λ h. settled_in.0 (sym c.is_in ∙ h)) number)))
      lefts x u R m r j (no d) (yes f) =
          let at-v : u ≡ v = same_end r (ap (λ y. (N' y).right) f ∙ right-p) in
          rw (f, at-v) (to-joiner R (granting-keeps c R (rw f at j) ∙ asked.number))
      lefts x u R m r j (no d) (no f) = link-kept c x u R p f d m r j (p-in c) c.right f

-- ---- a leaver is let go
module _ {N N' : ℕ → Node} {M rest M' : List Message} {told joins : ℕ → Bool} {v p new e : ℕ} {n : Number} {q a : ℕ} {k l : Number} (c : Grant N N' M rest M' told joins v p new e n q a k l) (another : new ≢ v) where
  pub is-leaver : (N v).status ≡ Del
  is-leaver = ⊎_elim (λ h. absurd (another ((waiting c).by_joiner h).itself)) (λ h. h) (waits c)

  pub to-leave : ByLeaver N v new e n
  to-leave = (waiting c).by_leaver is-leaver

  pub still-in : Member N M v
  still-in = member-same is-leaver (no_answer c)

module _ {N N' : ℕ → Node} {M rest M' : List Message} {told told' joins : ℕ → Bool} {v p new e n l R₀ : ℕ} (c : Grant N N' M rest M' told joins v p new e n new p n l)
    (another : new ≢ v) (number : (N v).rseq ≡ Some R₀) (others-told : (u : ℕ) → u ≢ v → told' u ≡ told u) (own-told : told' v ≡ false) where
  pub lets-go-kept : Invariant N' M' told' joins
  lets-go-kept = record {
    exchanges = exchanges-kept c new-member (λ h. absurd (ins_not_del (sym h ∙ del)));
    order = record {
      order = w.order;
      ring = ring-kept w.ring (λ u _. unchanged c.at key_of refl u) (λ u _. refl);
      members = λ u. (λ j. let s = (w.members u).0 j in same-member c u s.1 ∙ (c.inv.order.members u).0 s.0, λ m. (w.members u).1 (from u m (ℕ_discrete u v)));
      as_told = λ u. as_told u (ℕ_discrete u v);
      lefts = λ x u R m r j. lefts x u R m r j (ℕ_discrete x v) (ℕ_discrete x p);
    };
  }
    where
      del : (N v).status ≡ Del
      del = is-leaver c another

      asked : ByLeaver N v new e n
      asked = to-leave c another

      still : Member N M v
      still = still-in c another

      gone : is_member N' M' v ≡ false
      gone = member-same (status c v ∙ del) (acked c)

      v-in : v ∈ c.inv.order.order
      v-in = (c.inv.order.members v).1 still

      new-member : Member N M new
      new-member = (c.inv.order.members new).0 (next-in c.inv.order.ring v-in asked.right)

      right-p : (N' p).right ≡ Some new
      right-p = ap right_of c.at.self

      w : Without (λ u. (N u).key) (λ u. (N' u).right) c.inv.order.order v
      w = remove c.inv.order.ring (p-in c) v-in (c.right ∙ ap Some asked.expected) asked.right right-p (λ m d _. ap right_of (c.at.others m d))

      from : (u : ℕ) → Member N' M' u → Dec (u ≡ v) → (u ∈ c.inv.order.order) × (u ≢ v)
      from u m (yes d) = absurd (not-both m (ap (is_member N' M') d ∙ gone))
      from u m (no d) = ((c.inv.order.members u).1 (sym (same-member c u d) ∙ m), d)

      as_told : (u : ℕ) → Dec (u ≡ v) → told' u ≡ is_member N' M' u
      as_told u (yes d) = rw d (own-told ∙ sym gone)
      as_told u (no d) = others-told u d ∙ c.inv.order.as_told u ∙ sym (same-member c u d)

      lefts : (x u R : ℕ) → Member N' M' x → (N' x).right ≡ Some u → Keeps N' M' x R → Dec (x ≡ v) → Dec (x ≡ p) → LeftLink N' M' x u R
      lefts x u R m r j (yes d) o = absurd (not-both m (ap (is_member N' M') d ∙ gone))
      lefts x u R m r j (no d) (yes f) =
          let at_new : u ≡ new = same_end r (ap (λ y. (N' y).right) f ∙ right-p) in
          let kept : R ≡ n = granting-keeps c R (rw f at j) in
          rw (f, at_new, kept) (new-link c v R₀ (asked.number R₀ number) (c.inv.order.lefts v new R₀ still asked.right (stored (λ h. ins_not_del (sym h ∙ del)) number)))
      lefts x u R m r j (no d) (no f) = link-kept c x u R v f d m r j v-in asked.right d
