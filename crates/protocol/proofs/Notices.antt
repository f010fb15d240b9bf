-- The invariant holds after the delivery of a SetL. If it is taken, its number is the one that the
-- predecessor keeps, and then it names the predecessor, or a lower one, and then the notice with
-- that number still waits. If it is old, it was not that notice. Assumes nothing.
use Rattle.std.specs.Prelude.{Some}
use mathlib.Core.Path.{◌≡◌, refl, sym, ap, ◌∙◌}
use mathlib.Core.Logic.{⊎_elim, ◌≢◌}
use mathlib.Core.Bool.{Bool, true, false}
use mathlib.Core.List.{List}
use Prim.Native.Nat.{ℕ}
use native.Mathlib.Decide.{ℕ_discrete}
use Rattle.predicates.proofs.TestLaws.{◌∈◌, holds, is_true, not-both}
use Rattle.sequence.specs.Sequence.{Number, newer}
use Rattle.sequence.proofs.Laws.{Newer, newer-total}
use Rattle.parts.specs.declared.Status.TheVariants.{Ins}
use Rattle.parts.specs.declared.Kind.TheVariants.{SetL}
use Rattle.parts.specs.declared.Message.{Message}
use Rattle.node.specs.declared.Node.{Node}
use Rattle.node.specs.Actions.{set_r, set_l, left_set}
use Rattle.protocol.proofs.Nodes.{At, unchanged}
use Rattle.protocol.proofs.Waiting.{Taken, taken_out, Limited, request-exchange, no-ack, acks-left}
use Rattle.protocol.proofs.Fields.{status_of, key_of, left_of, right_of, lseq_of, rseq_of, kind_of, to_of}
use Rattle.protocol.proofs.Invariant.{is_member, Request, LeftLink, Invariant}
use Rattle.protocol.proofs.Frames.{member-same, request-same, keeps_same, left-same, same-order}

same_number : {w u a n p i b k : ℕ} → set_l w u a n ≡ set_l p i b k → n ≡ k
same_number {a} {n} {b} {k} e = let f : SetL a n ≡ SetL b k = ap kind_of e in cc

module _ {N N' : ℕ → Node} {M rest : List Message} {told joins : ℕ → Bool} {p i a n : ℕ} {x : Node}
    (limited : Limited N M) (inv : Invariant N M told joins) (t : Taken M (set_l p i a n) rest) (at : At N i x N') where
  -- node i keeps all but its left link and number; what is left to show is about that link
  heard : x.status ≡ (N i).status → x.key ≡ (N i).key → x.right ≡ (N i).right → x.rseq ≡ (N i).rseq
      → ((v : ℕ) (R : Number) → LeftLink N M v i R → LeftLink N' rest v i R) → Invariant N' rest told joins
  heard st key right rseq link = record {
    exchanges = record {
      joiners = λ u h. inv.exchanges.joiners u (sym (status u) ∙ h);
      leavers = λ u h. inv.exchanges.leavers u (sym (status u) ∙ h);
      requests = λ v q new e k j. request v q new e k j (ℕ_discrete v i);
      quiet = λ w u b k h f j. inv.exchanges.quiet w u b k (sym (status u) ∙ h) (sym (member u) ∙ f) (t.left _ j);
    };
    order = same-order (record {
      member = member;
      key = λ u _. keys u;
      right = λ u _. unchanged at right_of right u;
      keeps = λ v R _ k. keeps_same (status v) (unchanged at rseq_of rseq v) (λ w j. t.left _ j) k;
      lefts = λ v u R _ k. lefts v u R k (ℕ_discrete u i);
    }) inv.order;
  }
    where
      status : (u : ℕ) → (N' u).status ≡ (N u).status
      status = unchanged at status_of st

      keys : (u : ℕ) → (N' u).key ≡ (N u).key
      keys = unchanged at key_of key

      member : (u : ℕ) → is_member N' rest u ≡ is_member N M u
      member u = member-same (status u) (acks-left u t refl)

      -- a joiner whose request waits gets no notice
      not-joiner : (q new e k : ℕ) → set_r i q new e k ∈ M → (N i).status ≢ Ins
      not-joiner q new e k j h =
          let (others, s) = taken_out j in
          inv.exchanges.quiet p i a n h (member-same h (no-ack limited i s (request-exchange i q new e k) refl)) t.waits

      request : (v q new e k : ℕ) → set_r v q new e k ∈ rest → Dec (v ≡ i) → Request N' v q new e k
      request v q new e k j (yes d) = rw d (own (rw d at (t.left _ j)))
        where
          own : set_r i q new e k ∈ M → Request N' i q new e k
          own j = record {
            by_joiner = λ h. absurd (not-joiner q new e k j (sym (status i) ∙ h));
            by_leaver = λ h. let b = (inv.exchanges.requests i q new e k j).by_leaver (sym (status i) ∙ h) in
                record {
                  right = unchanged at right_of right i ∙ b.right;
                  another = b.another;
                  expected = b.expected;
                  number = λ l f. b.number l (sym (unchanged at rseq_of rseq i) ∙ f);
                };
          }
      request v q new e k j (no d) = request-same (at.others v d) (keys q) (keys e) (inv.exchanges.requests v q new e k (t.left _ j))

      lefts : (v u : ℕ) (R : Number) → LeftLink N M v u R → Dec (u ≡ i) → LeftLink N' rest v u R
      lefts v u R k (yes d) = rw d (link v R (rw d at k))
      lefts v u R k (no d) =
          left-same (ap lseq_of (at.others u d)) (ap left_of (at.others u d)) (λ w b l j. t.left _ j)
          (λ w b l j. ⊎_elim (λ e. absurd (d (ap to_of e))) (λ r. r) (t.either _ j)) k

-- R5.12: a newer notice is taken
pub takes-kept : {N N' : ℕ → Node} {M rest : List Message} {told joins : ℕ → Bool} {p i a n : ℕ} → Limited N M → Invariant N M told joins
    → Taken M (set_l p i a n) rest → newer n (N i).lseq ≡ true → At N i (left_set (N i) a n) N' → Invariant N' rest told joins
takes-kept {N} {N'} {M} {rest} {p = p} {i} {a} {n} limited inv t new at = heard limited inv t at refl refl refl refl link
  where
    lseq : (N' i).lseq ≡ n
    lseq = ap lseq_of at.self

    link : (v : ℕ) (R : Number) → LeftLink N M v i R → LeftLink N' rest v i R
    link v R k = record {
      reached = rw lseq (k.noticed p a n t.waits);
      noticed = λ w b l j. k.noticed w b l (t.left _ j);
      named = λ w b j. k.named w b (t.left _ j);
      current = λ e. ap left_of at.self ∙ ap Some (k.named p a (rw (sym lseq ∙ e) at t.waits));
      awaited = λ d.
          let (w, b, j) = k.awaited (λ e. k.noticed p a n t.waits (rw e at (holds new))) in
          (w, b, ⊎_elim (λ e. absurd (d (lseq ∙ sym (same_number e)))) (λ l. l) (t.either _ j));
    }

-- R5.12: an older one changes nothing
pub ignores-kept : {N N' : ℕ → Node} {M rest : List Message} {told joins : ℕ → Bool} {p i a n : ℕ} → Limited N M → Invariant N M told joins
    → Taken M (set_l p i a n) rest → newer n (N i).lseq ≡ false → At N i (N i) N' → Invariant N' rest told joins
ignores-kept {N} {N'} {M} {rest} {p = p} {i} {a} {n} limited inv t old at = heard limited inv t at refl refl refl refl link
  where
    lseq : (N' i).lseq ≡ (N i).lseq
    lseq = ap lseq_of at.self

    -- it is not the notice that is awaited
    late : (R : ℕ) → ¬ Newer (N i).lseq R → (N i).lseq ≢ R → R ≢ n
    late R r d e = ⊎_elim (λ h. not-both (is-newer h) old) (⊎_elim (λ f. d (sym f ∙ sym e)) (λ h. r (rw (sym e) at h))) (newer-total n (N i).lseq)
      where
        is-newer : Newer n (N i).lseq → newer n (N i).lseq ≡ true
        is-newer h = is_true (newer n (N i).lseq) h

    link : (v : ℕ) (R : Number) → LeftLink N M v i R → LeftLink N' rest v i R
    link v R k = record {
      reached = rw lseq k.reached;
      noticed = λ w b l j. k.noticed w b l (t.left _ j);
      named = λ w b j. k.named w b (t.left _ j);
      current = λ e. ap left_of at.self ∙ k.current (sym lseq ∙ e);
      awaited = λ d.
          let (w, b, j) = k.awaited (λ e. d (lseq ∙ e)) in
          (w, b, ⊎_elim (λ e. absurd (late R k.reached (λ f. d (lseq ∙ f)) (same_number e))) (λ l. l) (t.either _ j));
    }
