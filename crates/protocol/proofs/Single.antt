-- The invariant holds where a ring of one node begins, by a creation, and where it ends, by that
-- node's going out alone. Assumes nothing.
use Rattle.std.specs.Prelude.{Some}
use mathlib.Core.Path.{◌≡◌, refl, sym, ap, ◌∙◌}
use mathlib.Core.Logic.{◌≢◌}
use mathlib.Core.Bool.{Bool, true, false}
use mathlib.Core.List.{List, [], ◌∷◌}
use Prim.Native.Nat.{ℕ}
use native.Mathlib.Decide.{ℕ_discrete}
use borrow.Author.Tests.{eq-eqb}
use Rattle.predicates.specs.Tests.{any}
use Rattle.predicates.proofs.TestLaws.{◌∈◌, not-both, none_in}
use Rattle.sequence.specs.Sequence.{Number, first_seq}
use Rattle.sequence.proofs.Laws.{newer_irreflexive}
use Rattle.links.proofs.Ring.{here, in-nil, in_one}
use Rattle.links.proofs.Circuit.{no-ring, one-ring, alone-in}
use Rattle.links.proofs.Trails.{same_end}
use Rattle.parts.specs.declared.Status.{Status}
use Rattle.parts.specs.declared.Status.TheVariants.{Out, Ins, In, Del}
use Rattle.parts.specs.declared.Message.{Message}
use Rattle.node.specs.declared.Node.{Node}
use Rattle.node.specs.Actions.{set_r, set_l, with_status, created}
use Rattle.protocol.specs.State.{is_notice_to, exchanges}
use Rattle.protocol.proofs.Nodes.{At, unchanged}
use Rattle.protocol.proofs.Waiting.{Limited, request-exchange, no-exchange}
use Rattle.protocol.proofs.Fields.{status_of, key_of, left_of, right_of, lseq_of, rseq_of}
use Rattle.protocol.proofs.Invariant.{is_member, Member, Keeps, stored, coming, LeftLink, Invariant}
use Rattle.protocol.proofs.Frames.{member-same, request-same, settled_in, settled_out}

module _ {N N' : ℕ → Node} {M : List Message} {told told' joins : ℕ → Bool} (limited : Limited N M) (inv : Invariant N M told joins)
    (i : ℕ) (others-told : (u : ℕ) → u ≢ i → told' u ≡ told u) where
  -- R5.1: u is created
  pub creates-kept : ((u : ℕ) → (N u).status ≡ Out) → any (is_notice_to i) M ≡ false → told' i ≡ true → At N i (created i (N i)) N' → Invariant N' M told' joins
  creates-kept out quiet own-told at = record {
    exchanges = record {
      joiners = λ u h. absurd (none-waits u Ins settled_in.0 settled_out.0 h);
      leavers = λ u h. absurd (none-waits u Del settled_in.1 settled_out.1 h);
      requests = λ v p new e n j. absurd (not-both (request-exchange v p new e n) (no-exchange limited v (ap exchanges (out v)) j));
      quiet = λ w u a n h. absurd (none-waits u Ins settled_in.0 settled_out.0 h);
    };
    order = record {
      order = i ∷ [];
      ring = one-ring (ap right_of at.self);
      members = λ u. (λ j. rw (in_one j) own, λ m. here (only u m (ℕ_discrete u i)));
      as_told = λ u. as_told u (ℕ_discrete u i);
      lefts = λ v u R m r k. lefts v u R (only v m (ℕ_discrete v i)) r k;
    };
  }
    where
      none-waits : (u : ℕ) (s : Status) → In ≢ s → Out ≢ s → (N' u).status ≢ s
      none-waits u s not_in not_out h = go (ℕ_discrete u i)
        where
          go : Dec (u ≡ i) → ⊥
          go (yes d) = not_in (sym (ap status_of at.self) ∙ ap (λ v. (N' v).status) (sym d) ∙ h)
          go (no d) = not_out (sym (out u) ∙ sym (ap status_of (at.others u d)) ∙ h)

      own : is_member N' M i ≡ true
      own = member-same (ap status_of at.self) refl

      not-other : (u : ℕ) → u ≢ i → is_member N' M u ≡ false
      not-other u d = member-same (ap status_of (at.others u d) ∙ out u) refl

      only : (u : ℕ) → Member N' M u → Dec (u ≡ i) → u ≡ i
      only u m (yes d) = d
      only u m (no d) = absurd (not-both m (not-other u d))

      as_told : (u : ℕ) → Dec (u ≡ i) → told' u ≡ is_member N' M u
      as_told u (yes d) = rw d (own-told ∙ sym own)
      as_told u (no d) = others-told u d ∙ inv.order.as_told u ∙ member-same (out u) refl ∙ sym (not-other u d)

      lone : (R : ℕ) → first_seq ≡ R → LeftLink N' M i i R
      lone R f =
          let lseq : (N' i).lseq ≡ R = ap lseq_of at.self ∙ f in
          let none : (w a : ℕ) (n : Number) → ¬ (set_l w i a n ∈ M) = λ w a n j. not-both (eq-eqb i i refl) (none_in (is_notice_to i) quiet j) in
          record {
            reached = rw lseq (newer_irreflexive R);
            noticed = λ w a n j. absurd (none w a n j);
            named = λ w a j. absurd (none w a R j);
            current = λ _. ap left_of at.self;
            awaited = λ d. absurd (d lseq);
          }

      number : (R : ℕ) → Keeps N' M i R → first_seq ≡ R
      number R (stored f e) = let same : Some first_seq ≡ Some R = sym (ap rseq_of at.self) ∙ e in cc
      number R (coming h w j) = absurd (settled_in.0 (sym (ap status_of at.self) ∙ h))

      lefts : (v u : ℕ) (R : Number) → v ≡ i → (N' v).right ≡ Some u → Keeps N' M v R → LeftLink N' M v u R
      lefts v u R d r k =
          let here : u ≡ i = same_end r (ap (λ w. (N' w).right) d ∙ ap right_of at.self) in
          rw (d, here) (lone R (number R (rw d at k)))

  -- R5.3: u leaves alone
  pub goes-alone-kept : {joins' : ℕ → Bool} → ((u : ℕ) → u ≢ i → joins' u ≡ joins u) → (N i).status ≡ In → (N i).right ≡ Some i → told' i ≡ false → At N i (with_status Out (N i)) N' → Invariant N' M told' joins'
  goes-alone-kept other_joins is-in alone own-told at = record {
    exchanges = record {
      joiners = λ u h. other_joins u (not-gone u Ins settled_out.0 h) ∙ inv.exchanges.joiners u (waited u Ins settled_out.0 h);
      leavers = λ u h. other_joins u (not-gone u Del settled_out.1 h) ∙ inv.exchanges.leavers u (waited u Del settled_out.1 h);
      requests = λ v p new e n j. request-same (at.others v (not_own v p new e n j)) (keys p) (keys e) (inv.exchanges.requests v p new e n j);
      quiet = λ w u a n h f j. inv.exchanges.quiet w u a n (waited u Ins settled_out.0 h) (sym (same u (not-gone u Ins settled_out.0 h)) ∙ f) j;
    };
    order = record {
      order = [];
      ring = no-ring;
      members = λ u. (λ j. absurd (in-nil j), λ m. absurd (none u m (ℕ_discrete u i)));
      as_told = λ u. as_told u (ℕ_discrete u i);
      lefts = λ v u R m. absurd (none v m (ℕ_discrete v i));
    };
  }
    where
      keys : (u : ℕ) → (N' u).key ≡ (N u).key
      keys = unchanged at key_of refl

      not_own : (v p new e : ℕ) (n : Number) → set_r v p new e n ∈ M → v ≢ i
      not_own v p new e n j f = not-both (request-exchange v p new e n) (rw (← f) at (no-exchange limited i (ap exchanges is-in) j))

      not-gone : (u : ℕ) (s : Status) → Out ≢ s → (N' u).status ≡ s → u ≢ i
      not-gone u s n h e = n (sym (ap status_of at.self) ∙ ap (λ v. (N' v).status) (sym e) ∙ h)

      waited : (u : ℕ) (s : Status) → Out ≢ s → (N' u).status ≡ s → (N u).status ≡ s
      waited u s n h = sym (ap status_of (at.others u (not-gone u s n h))) ∙ h

      gone : is_member N' M i ≡ false
      gone = member-same (ap status_of at.self) refl

      same : (u : ℕ) → u ≢ i → is_member N' M u ≡ is_member N M u
      same u d = member-same (ap status_of (at.others u d)) refl

      none : (u : ℕ) → Member N' M u → Dec (u ≡ i) → ⊥
      none u m (yes d) = not-both m (ap (is_member N' M) d ∙ gone)
      none u m (no d) = d (alone-in inv.order.ring ((inv.order.members i).1 (member-same is-in refl)) alone u ((inv.order.members u).1 (sym (same u d) ∙ m)))

      as_told : (u : ℕ) → Dec (u ≡ i) → told' u ≡ is_member N' M u
      as_told u (yes d) = rw d (own-told ∙ sym gone)
      as_told u (no d) = others-told u d ∙ inv.order.as_told u ∙ sym (same u d)
