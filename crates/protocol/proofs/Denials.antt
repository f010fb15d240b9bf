-- The invariant holds after the delivery of a request that is denied, and of a notice to a node
-- that is out: no node changes, and of what waited nothing goes that the invariant speaks of.
-- Assumes nothing.
use mathlib.Core.Path.{◌≡◌, refl, sym, ap, ◌∙◌}
use mathlib.Core.Logic.{⊎_elim, ◌≢◌}
use mathlib.Core.Bool.{Bool, false}
use mathlib.Core.List.Memᴰ.{append_left as in_left}
use mathlib.Core.List.{List, [], ◌∷◌, ◌++◌}
use Prim.Native.Nat.{ℕ}
use Rattle.sequence.specs.Sequence.{Number}
use Rattle.predicates.specs.Tests.{any}
use Rattle.predicates.proofs.TestLaws.{◌∈◌}
use Rattle.parts.specs.declared.Status.TheVariants.{Out}
use Rattle.parts.specs.declared.Message.{Message}
use Rattle.node.specs.declared.Node.{Node}
use Rattle.node.specs.Actions.{set_r, set_r_nak, set_l}
use Rattle.protocol.specs.State.{is_ack_to}
use Rattle.parts.specs.Tests.{is_nak, is_notice}
use Rattle.protocol.proofs.Nodes.{At, unchanged}
use Rattle.protocol.proofs.Waiting.{Taken, apart, in_one, same-any, acks-left}
use Rattle.protocol.proofs.Fields.{status_of, key_of, left_of, right_of, lseq_of, rseq_of, to_of}
use Rattle.protocol.proofs.Invariant.{is_member, Invariant}
use Rattle.protocol.proofs.Frames.{member-same, member_not_out, request-same, keeps_same, left-same, same-order}

-- no node changes; but for denials nothing comes, no acknowledgement goes, and no notice to a node
-- that is not out
pub unmoved : {N N' : ℕ → Node} {M M' : List Message} {told joins : ℕ → Bool} → Invariant N M told joins → ((u : ℕ) → N' u ≡ N u)
    → ((u : ℕ) → any (is_ack_to u) M' ≡ any (is_ack_to u) M) → ((x : Message) → is_nak x.kind ≡ false → x ∈ M' → x ∈ M)
    → ((w u a : ℕ) (n : Number) → (N u).status ≢ Out → set_l w u a n ∈ M → set_l w u a n ∈ M') → Invariant N' M' told joins
unmoved {N} {N'} {M} {M'} inv same acks from to = record {
  exchanges = record {
    joiners = λ u h. inv.exchanges.joiners u (sym (status u) ∙ h);
    leavers = λ u h. inv.exchanges.leavers u (sym (status u) ∙ h);
    requests = λ v p new e n j. request-same (same v) (keys p) (keys e) (inv.exchanges.requests v p new e n (from _ refl j));
    quiet = λ w u a n h f j. inv.exchanges.quiet w u a n (sym (status u) ∙ h) (sym (member u) ∙ f) (from _ refl j);
  };
  order = same-order (record {
    member = member;
    key = λ u _. keys u;
    right = λ u _. ap right_of (same u);
    keeps = λ v R _ k. keeps_same (status v) (ap rseq_of (same v)) (λ w j. from _ refl j) k;
    lefts = λ v u R mu k. left-same (ap lseq_of (same u)) (ap left_of (same u)) (λ w a n j. from _ refl j) (λ w a n j. to w u a n (member_not_out N M u mu) j) k;
  }) inv.order;
}
  where
    status : (u : ℕ) → (N' u).status ≡ (N u).status
    status u = ap status_of (same u)

    keys : (u : ℕ) → (N' u).key ≡ (N u).key
    keys u = ap key_of (same u)

    member : (u : ℕ) → is_member N' M' u ≡ is_member N M u
    member u = member-same (status u) (acks u)

module _ {N N' : ℕ → Node} {M rest : List Message} {told joins : ℕ → Bool} {i : ℕ} (inv : Invariant N M told joins) (at : At N i (N i) N') where
  -- R5.9: a request is denied
  pub denies-kept : (v p new e : ℕ) (n : Number) → Taken M (set_r v p new e n) rest → Invariant N' (rest ++ set_r_nak p v ∷ []) told joins
  denies-kept v p new e n t =
      unmoved inv (unchanged at (λ y. y) refl)
      (λ u. same-any (is_ack_to u) _ rest (λ x a j. ⊎_elim (λ k. k) (λ d. absurd (apart (is_ack_to u) a refl d)) (in_one rest j)) (λ x _ j. in_left _ j) ∙ acks-left u t refl)
      (λ x f j. ⊎_elim (λ k. t.left x k) (λ d. absurd (apart (λ y. is_nak y.kind) refl f (sym d))) (in_one rest j))
      (λ w u a k _ j. in_left _ (⊎_elim (λ d. absurd (apart (λ y. is_notice y.kind) refl refl d)) (λ l. l) (t.either _ j)))

  -- R5.13: a node that is out drops a notice
  pub drops-kept : {p a n : ℕ} → (N i).status ≡ Out → Taken M (set_l p i a n) rest → Invariant N' rest told joins
  drops-kept {p} {a} {n} out t = unmoved inv (unchanged at (λ y. y) refl) (λ u. acks-left u t refl) (λ x _ j. t.left x j) notice
    where
      notice : (w u b : ℕ) (k : Number) → (N u).status ≢ Out → set_l w u b k ∈ M → set_l w u b k ∈ rest
      notice w u b k d j = ⊎_elim (λ e. absurd (d (ap (λ q. (N q).status) (ap to_of e) ∙ out))) (λ l. l) (t.either _ j)
