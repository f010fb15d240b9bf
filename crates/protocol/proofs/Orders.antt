-- The invariant holds after a declaration, and after a join or a leave that posts a request:
-- whoever was inserted still is, and the request says what its sender's links and numbers say.
-- Assumes nothing.
use Rattle.std.specs.Prelude.{Some}
use mathlib.Core.Path.{◌≡◌, refl, sym, ap, ◌∙◌}
use mathlib.Core.Logic.{⊎_elim, ◌≢◌}
use mathlib.Core.Bool.{Bool, true, false}
use mathlib.Core.List.Memᴰ.{append_left as in_left}
use mathlib.Core.List.{List, [], ◌∷◌, ◌++◌}
use Prim.Native.Nat.{ℕ}
use native.Mathlib.Decide.{ℕ_discrete}
use borrow.Author.Tests.{eq-eqb}
use Rattle.predicates.specs.Tests.{any}
use Rattle.predicates.proofs.TestLaws.{◌∈◌, not-both, none_in, not-any}
use Rattle.interval.proofs.Laws.{Between}
use Rattle.sequence.specs.Sequence.{Number, next_seq}
use Rattle.parts.specs.declared.Status.{Status}
use Rattle.parts.specs.declared.Status.TheVariants.{Out, Ins, In, Del}
use Rattle.parts.specs.declared.Kind.TheVariants.{SetR}
use Rattle.parts.specs.declared.Message.{Message}
use Rattle.node.specs.declared.Node.{Node}
use Rattle.node.specs.declared.Peer.{Peer}
use Rattle.node.specs.Shape.{declared_of}
use Rattle.node.specs.Actions.{set_r, set_r_ack, set_l, with_status, joining}
use Rattle.protocol.specs.State.{is_ack_to, is_notice_to, exchanges, is_inserted}
use Rattle.parts.specs.Tests.{is_notice, is_ack}
use Rattle.protocol.proofs.Nodes.{At, unchanged}
use Rattle.protocol.proofs.Waiting.{Limited, apart, in_one as in-posted, same-any, request-exchange, not-ack, no-exchange}
use Rattle.protocol.proofs.Fields.{status_of, key_of, left_of, right_of, lseq_of, rseq_of, kind_of, to_of, sender_of}
use Rattle.protocol.proofs.Invariant.{is_member, Member, Request, Keeps, stored, coming, Invariant}
use Rattle.protocol.proofs.Frames.{settled_in, ins_not_del, member-same, member_not_out, request-same, keeps_same, left-same, same-order}

-- ---- declare
-- a node more, that is out as its place was; every request that waits is from, to and about others
pub declares-kept : {N N' : ℕ → Node} {M : List Message} {told joins : ℕ → Bool} {i key : ℕ} → Invariant N M told joins → (N i).status ≡ Out
    → ((v p new e : ℕ) (n : Number) → set_r v p new e n ∈ M → (v ≢ i) × (p ≢ i) × (e ≢ i)) → At N i (declared_of key) N' → Invariant N' M told joins
declares-kept {N} {N'} {M} {i = i} inv out known at = record {
  exchanges = record {
    joiners = λ u h. inv.exchanges.joiners u (sym (status u) ∙ h);
    leavers = λ u h. inv.exchanges.leavers u (sym (status u) ∙ h);
    requests = λ v p new e n j. let (dv, dp, de) = known v p new e n j in
        request-same (at.others v dv) (ap key_of (at.others p dp)) (ap key_of (at.others e de)) (inv.exchanges.requests v p new e n j);
    quiet = λ w u a n h f j. inv.exchanges.quiet w u a n (sym (status u) ∙ h) (sym (member u) ∙ f) j;
  };
  order = same-order (record {
    member = member;
    key = λ u m. ap key_of (same u m);
    right = λ u m. ap right_of (same u m);
    keeps = λ v R m k. keeps_same (status v) (ap rseq_of (same v m)) (λ w j. j) k;
    lefts = λ v u R m k. left-same (ap lseq_of (same u m)) (ap left_of (same u m)) (λ w a n j. j) (λ w a n j. j) k;
  }) inv.order;
}
  where
    status : (u : ℕ) → (N' u).status ≡ (N u).status
    status = unchanged at status_of (sym out)

    member : (u : ℕ) → is_member N' M u ≡ is_member N M u
    member u = member-same (status u) refl

    same : (u : ℕ) → Member N M u → N' u ≡ N u
    same u m = at.others u (λ e. member_not_out N M u m (ap (λ v. (N v).status) e ∙ out))

-- ---- join and leave, by a request
-- the SetRs of a queue with one more
one_more : {N : ℕ → Node} {M : List Message} {i p new e n : ℕ} → ((v q b d k : ℕ) → set_r v q b d k ∈ M → Request N v q b d k) → Request N i p new e n
    → (v q b d k : ℕ) → set_r v q b d k ∈ (M ++ set_r i p new e n ∷ []) → Request N v q b d k
one_more {N} {M} {i} {p} {new} {e} {n} old own v q b d k j = ⊎_elim (λ l. old v q b d k l) (λ f. posted f) (in-posted M j)
  where
    posted : set_r v q b d k ≡ set_r i p new e n → Request N v q b d k
    posted f =
        let kind : SetR b d k ≡ SetR new e n = ap kind_of f in
        let from : v ≡ i = ap sender_of f in
        let to : q ≡ p = ap to_of f in
        let eb : b ≡ new = cc in
        let ed : d ≡ e = cc in
        let ek : k ≡ n = cc in
        rw (from, to, eb, ed, ek) own

-- acknowledgements are the same with a request more
asked-acks : (M : List Message) (i p new e n u : ℕ) → any (is_ack_to u) (M ++ set_r i p new e n ∷ []) ≡ any (is_ack_to u) M
asked-acks M i p new e n u = same-any (is_ack_to u) _ M (λ y a j. ⊎_elim (λ k. k) (λ d. absurd (apart (is_ack_to u) a refl d)) (in-posted M j)) (λ y _ j. in_left _ j)

-- a node that had no exchange posts a request; if it is inserted it keeps its links and numbers
record Asks (N N' : ℕ → Node) (M : List Message) (joins joins' : ℕ → Bool) (i p new e n : ℕ) (x : Node) : Type 0 where
  at : At N i x N'
  idle : exchanges (N i).status ≡ 0
  key : x.key ≡ (N i).key
  other_joins : (u : ℕ) → u ≢ i → joins' u ≡ joins u
  joiner : x.status ≡ Ins → joins' i ≡ true
  leaver : x.status ≡ Del → joins' i ≡ false
  request : Request N' i p new e n
  no_notice : (w a k : ℕ) → x.status ≡ Ins → ¬ (set_l w i a k ∈ M)
  member : is_member N' M i ≡ is_member N M i
  right : Member N M i → x.right ≡ (N i).right
  left : Member N M i → (x.left ≡ (N i).left) × (x.lseq ≡ (N i).lseq)
  keeps : (R : ℕ) → Member N M i → Keeps N' M i R → Keeps N M i R

asked : {N N' : ℕ → Node} {M : List Message} {told joins joins' : ℕ → Bool} {i p new e n : ℕ} {x : Node}
    → Limited N M → Invariant N M told joins → Asks N N' M joins joins' i p new e n x → Invariant N' (M ++ set_r i p new e n ∷ []) told joins'
asked {N} {N'} {M} {joins = joins} {joins'} {i} {p} {new} {e} {n} {x} limited inv a = record {
  exchanges = record {
    joiners = λ u h. joined u h (ℕ_discrete u i);
    leavers = λ u h. left-to-go u h (ℕ_discrete u i);
    requests = one_more (λ v q b d k j. request-same (a.at.others v (not_own v q b d k j)) (keys q) (keys d) (inv.exchanges.requests v q b d k j)) a.request;
    quiet = λ w u b k h f j. ⊎_elim (λ l. no_notice w u b k h f l (ℕ_discrete u i)) (λ d. apart (λ y. is_notice y.kind) refl refl d) (in-posted M j);
  };
  order = same-order (record {
    member = member;
    key = λ u _. keys u;
    right = λ u m. at-member right_of a.right u m (ℕ_discrete u i);
    keeps = λ v R m k. keeps v R m k (ℕ_discrete v i);
    lefts = λ v u R m k. left-same (at-member lseq_of (λ o. (a.left o).1) u m (ℕ_discrete u i)) (at-member left_of (λ o. (a.left o).0) u m (ℕ_discrete u i))
        (λ w b l j. ⊎_elim (λ h. h) (λ d. absurd (apart (λ y. is_notice y.kind) refl refl d)) (in-posted M j)) (λ w b l j. in_left _ j) k;
  }) inv.order;
}
  where
    status : (u : ℕ) → u ≢ i → (N' u).status ≡ (N u).status
    status u d = ap status_of (a.at.others u d)

    own-status : {u : ℕ} {s : Status} → u ≡ i → (N' u).status ≡ s → x.status ≡ s
    own-status d h = sym (ap status_of a.at.self) ∙ ap (λ v. (N' v).status) (sym d) ∙ h

    keys : (u : ℕ) → (N' u).key ≡ (N u).key
    keys = unchanged a.at key_of a.key

    joined : (u : ℕ) → (N' u).status ≡ Ins → Dec (u ≡ i) → joins' u ≡ true
    joined u h (yes d) = ap joins' d ∙ a.joiner (own-status d h)
    joined u h (no d) = a.other_joins u d ∙ inv.exchanges.joiners u (sym (status u d) ∙ h)

    left-to-go : (u : ℕ) → (N' u).status ≡ Del → Dec (u ≡ i) → joins' u ≡ false
    left-to-go u h (yes d) = ap joins' d ∙ a.leaver (own-status d h)
    left-to-go u h (no d) = a.other_joins u d ∙ inv.exchanges.leavers u (sym (status u d) ∙ h)

    not_own : (v q b d k : ℕ) → set_r v q b d k ∈ M → v ≢ i
    not_own v q b d k j f = not-both (request-exchange v q b d k) (rw (← f) at (no-exchange limited i a.idle j))

    member : (u : ℕ) → is_member N' (M ++ set_r i p new e n ∷ []) u ≡ is_member N M u
    member u = ap (λ b. is_inserted (N' u).status b) (asked-acks M i p new e n u) ∙ go (ℕ_discrete u i)
      where
        go : Dec (u ≡ i) → is_member N' M u ≡ is_member N M u
        go (yes d) = rw d a.member
        go (no d) = member-same (status u d) refl

    no_notice : (w u b k : ℕ) → (N' u).status ≡ Ins → is_member N' (M ++ set_r i p new e n ∷ []) u ≡ false → set_l w u b k ∈ M → Dec (u ≡ i) → ⊥
    no_notice w u b k h f j (yes d) = a.no_notice w b k (own-status d h) (rw d at j)
    no_notice w u b k h f j (no d) = inv.exchanges.quiet w u b k (sym (status u d) ∙ h) (sym (member u) ∙ f) j

    at-member : {B : Type 0} (f : Node → B) → (Member N M i → f x ≡ f (N i)) → (u : ℕ) → Member N M u → Dec (u ≡ i) → f (N' u) ≡ f (N u)
    at-member f same u m (yes d) = rw d (ap f a.at.self ∙ same (rw d at m))
    at-member f same u m (no d) = ap f (a.at.others u d)

    ack-before : (u R w : ℕ) → set_r_ack w u R ∈ (M ++ set_r i p new e n ∷ []) → set_r_ack w u R ∈ M
    ack-before u R w j = ⊎_elim (λ h. h) (λ z. absurd (apart (λ y. is_ack y.kind) refl refl z)) (in-posted M j)

    keeps : (v : ℕ) (R : Number) → Member N M v → Keeps N' (M ++ set_r i p new e n ∷ []) v R → Dec (v ≡ i) → Keeps N M v R
    keeps v R m k (yes d) = rw d (a.keeps R (rw d at m) (keeps_same refl refl (ack-before i R) (rw d at k)))
    keeps v R m k (no d) = keeps_same (status v d) (ap rseq_of (a.at.others v d)) (ack-before v R) k

-- a node that is idle has no acknowledgement waiting
idle-no-ack : {N : ℕ → Node} {M : List Message} → Limited N M → (u : ℕ) → exchanges (N u).status ≡ 0 → any (is_ack_to u) M ≡ false
idle-no-ack {N} {M} limited u e = not-any (is_ack_to u) M (λ y j. not-ack u y (no-exchange limited u e j))

module _ {N N' : ℕ → Node} {M : List Message} {told joins joins' : ℕ → Bool} (limited : Limited N M) (inv : Invariant N M told joins) (i : ℕ) (other_joins : (u : ℕ) → u ≢ i → joins' u ≡ joins u) where
  -- R5.2: u asks to join
  pub asks-kept : (p q : Peer) → (N i).status ≡ Out → joins' i ≡ true → any (is_notice_to i) M ≡ false → Between (N p.number).key (N q.number).key (N i).key
      → At N i (joining (N i) p q) N' → Invariant N' (M ++ set_r i p.number i q.number (N i).lseq ∷ []) told joins'
  asks-kept p q out joins quiet between at = asked limited inv (record {
    at = at;
    idle = ap exchanges out;
    key = refl;
    other_joins = other_joins;
    joiner = λ _. joins;
    leaver = λ e. absurd (ins_not_del e);
    request = record {
      by_joiner = λ _. record {
        itself = refl;
        left = ap left_of at.self;
        right = ap right_of at.self;
        number = sym (ap lseq_of at.self);
        between = rw (keys p.number, keys q.number, keys i) between;
      };
      by_leaver = λ h. absurd (ins_not_del (sym (ap status_of at.self) ∙ h));
    };
    no_notice = λ w a k _ j. not-both (eq-eqb i i refl) (none_in (is_notice_to i) quiet j);
    member = member-same (ap status_of at.self) (idle-no-ack limited i (ap exchanges out)) ∙ sym (member-same out refl);
    right = λ m. absurd (not-both m (member-same out refl));
    left = λ m. absurd (not-both m (member-same out refl));
    keeps = λ R m. absurd (not-both m (member-same out refl));
  })
    where
      keys : (u : ℕ) → (N' u).key ≡ (N u).key
      keys = unchanged at key_of refl

  -- R5.4: u asks to leave
  pub leaves_kept : (p q n : ℕ) → (N i).status ≡ In → joins' i ≡ false → (N i).right ≡ Some q → q ≢ i → (N i).rseq ≡ Some n
      → At N i (with_status Del (N i)) N' → Invariant N' (M ++ set_r i p q i (next_seq n) ∷ []) told joins'
  leaves_kept p q n is-in joins right not_alone number at = asked limited inv (record {
    at = at;
    idle = ap exchanges is-in;
    key = refl;
    other_joins = other_joins;
    joiner = λ e. absurd (ins_not_del (sym e));
    leaver = λ _. joins;
    request = record {
      by_joiner = λ h. absurd (ins_not_del (sym h ∙ ap status_of at.self));
      by_leaver = λ _. record {
        right = ap right_of at.self ∙ right;
        another = not_alone;
        expected = refl;
        number = λ k h. same_next k (sym number ∙ sym (ap rseq_of at.self) ∙ h);
      };
    };
    no_notice = λ w a k e. absurd (ins_not_del (sym e));
    member = member-same (ap status_of at.self) (idle-no-ack limited i (ap exchanges is-in)) ∙ sym (member-same is-in refl);
    right = λ _. refl;
    left = λ _. (refl, refl);
    keeps = λ R _ k. keep R k;
  })
    where
      same_next : (k : ℕ) → Some n ≡ Some k → next_seq n ≡ next_seq k
      same_next k e = let f : n ≡ k = cc in ap next_seq f

      keep : (R : ℕ) → Keeps N' M i R → Keeps N M i R
      keep R (stored f e) = stored (λ h. settled_in.0 (sym is-in ∙ h)) (sym (ap rseq_of at.self) ∙ e)
      keep R (coming h w j) = absurd (ins_not_del (sym h ∙ ap status_of at.self))
