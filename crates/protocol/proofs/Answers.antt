-- The invariant holds after the delivery of an answer: the node that waited for it is then in or
-- out, and is inserted exactly if it was. Assumes nothing.
use Rattle.std.specs.Prelude.{Some}
use mathlib.Core.Path.{◌≡◌, refl, sym, ap, ◌∙◌}
use mathlib.Core.Logic.{⊎_elim, ◌≢◌}
use mathlib.Core.Bool.{Bool, true, false}
use mathlib.Core.List.{List}
use Prim.Native.Nat.{ℕ}
use native.Mathlib.Decide.{ℕ_discrete}
use borrow.Author.Tests.{eq-eqb, ne_eqb}
use Rattle.sequence.specs.Sequence.{Number}
use Rattle.predicates.proofs.TestLaws.{◌∈◌, not-both, any-in}
use Rattle.parts.specs.declared.Status.{Status}
use Rattle.parts.specs.declared.Status.TheVariants.{Out, Ins, In, Del}
use Rattle.parts.specs.declared.Message.{Message}
use Rattle.node.specs.declared.Node.{Node}
use Rattle.node.specs.Actions.{set_r, set_r_ack, set_r_nak, set_l, with_status, confirmed}
use Rattle.protocol.specs.State.{is_ack_to, is_exchange_of, is_inserted}
use Rattle.protocol.specs.Claim.{Settled}
use Rattle.parts.specs.Tests.{is_notice}
use Rattle.protocol.proofs.Nodes.{At, unchanged}
use Rattle.protocol.proofs.Waiting.{Taken, Limited, apart, request-exchange, ack-exchange, nak_exchange, only-exchange, no-ack, acks-left}
use Rattle.protocol.proofs.Fields.{status_of, key_of, left_of, right_of, lseq_of, rseq_of}
use Rattle.protocol.proofs.Invariant.{is_member, Member, Keeps, stored, coming, Invariant}
use Rattle.protocol.proofs.Frames.{settled_in, settled_out, ins_not_del, member-same, request-same, keeps_same, left-same, same-order}

-- m is an answer to i, which then stands as x, settled, with the links and the left number it had
module _ {N N' : ℕ → Node} {M rest : List Message} {told joins : ℕ → Bool} {m : Message} {i : ℕ} {x : Node}
    (limited : Limited N M) (inv : Invariant N M told joins) (t : Taken M m rest) (at : At N i x N') where
  answered : is_exchange_of i m ≡ true → is_notice m.kind ≡ false → ((u : ℕ) → u ≢ i → is_ack_to u m ≡ false)
      → Settled x.status → x.key ≡ (N i).key → x.right ≡ (N i).right → x.left ≡ (N i).left → x.lseq ≡ (N i).lseq
      → is_member N' rest i ≡ is_member N M i → ((R : ℕ) → Member N M i → Keeps N' rest i R → Keeps N M i R)
      → Invariant N' rest told joins
  answered d not-notice elsewhere st key right left lseq own keep = record {
    exchanges = record {
      joiners = λ u h. inv.exchanges.joiners u (waited u Ins st.0 h);
      leavers = λ u h. inv.exchanges.leavers u (waited u Del st.1 h);
      requests = λ v p new e n j. request-same (at.others v (not_own v p new e n j)) (keys p) (keys e) (inv.exchanges.requests v p new e n (t.left _ j));
      quiet = λ w u a n h f j. inv.exchanges.quiet w u a n (waited u Ins st.0 h) (sym (member u) ∙ f) (t.left _ j);
    };
    order = same-order (record {
      member = member;
      key = λ u _. keys u;
      right = λ u _. unchanged at right_of right u;
      keeps = λ v R mv k. keeps v R mv k (ℕ_discrete v i);
      lefts = λ v u R _ k. left-same (unchanged at lseq_of lseq u) (unchanged at left_of left u) (λ w a n j. t.left _ j) (λ w a n j. notice w u a n j) k;
    }) inv.order;
  }
    where
      keys : (u : ℕ) → (N' u).key ≡ (N u).key
      keys = unchanged at key_of key

      waited : (u : ℕ) (s : Status) → x.status ≢ s → (N' u).status ≡ s → (N u).status ≡ s
      waited u s n h = go (ℕ_discrete u i)
        where
          go : Dec (u ≡ i) → (N u).status ≡ s
          go (yes e) = absurd (n (sym (ap status_of at.self) ∙ ap (λ u. (N' u).status) (sym e) ∙ h))
          go (no e) = sym (ap status_of (at.others u e)) ∙ h

      not_own : (v p new e : ℕ) (n : Number) → set_r v p new e n ∈ rest → v ≢ i
      not_own v p new e n j same = not-both (request-exchange v p new e n) (rw (← same) at (only-exchange limited i t d j))

      member : (u : ℕ) → is_member N' rest u ≡ is_member N M u
      member u = go (ℕ_discrete u i)
        where
          go : Dec (u ≡ i) → is_member N' rest u ≡ is_member N M u
          go (yes e) = rw e own
          go (no e) = member-same (ap status_of (at.others u e)) (acks-left u t (elsewhere u e))

      keeps : (v : ℕ) (R : Number) → Member N M v → Keeps N' rest v R → Dec (v ≡ i) → Keeps N M v R
      keeps v R mv k (yes e) = rw e (keep R (rw e at mv) (rw e at k))
      keeps v R mv k (no e) = keeps_same (ap status_of (at.others v e)) (ap rseq_of (at.others v e)) (λ w j. t.left _ j) k

      notice : (w u a : ℕ) (n : Number) → set_l w u a n ∈ M → set_l w u a n ∈ rest
      notice w u a n j = ⊎_elim (λ e. absurd (apart (λ y. is_notice y.kind) refl not-notice e)) (λ k. k) (t.either _ j)

-- ---- the four answers
ack_elsewhere : (p i n u : ℕ) → u ≢ i → is_ack_to u (set_r_ack p i n) ≡ false
ack_elsewhere p i n u d = ne_eqb i u (λ e. d (sym e))

-- who is inserted while the answer waits: a SetRAck is there, or none is
acked_before : (N : ℕ → Node) {M rest : List Message} {p i n : ℕ} {s : Status} → Taken M (set_r_ack p i n) rest → (N i).status ≡ s → is_member N M i ≡ is_inserted s true
acked_before N {i = i} t st = member-same st (any-in (is_ack_to i) t.waits (eq-eqb i i refl))

denied_before : {N : ℕ → Node} {M rest : List Message} {p i : ℕ} {s : Status} → Limited N M → Taken M (set_r_nak p i) rest → (N i).status ≡ s → is_member N M i ≡ is_inserted s false
denied_before {p} {i} limited t st = member-same st (no-ack limited i t (nak_exchange p i) refl)

module _ {N N' : ℕ → Node} {M rest : List Message} {told joins : ℕ → Bool} {p i : ℕ} (limited : Limited N M) (inv : Invariant N M told joins) where
  -- R5.10, a joiner hears SetRAck: it was inserted from the grant on, with that number
  pub joins-kept : (n : ℕ) → Taken M (set_r_ack p i n) rest → (N i).status ≡ Ins → At N i (confirmed (N i) n) N' → Invariant N' rest told joins
  joins-kept n t ins at =
      answered limited inv t at (ack-exchange p i n) refl (ack_elsewhere p i n) settled_in refl refl refl refl
      (member-same (ap status_of at.self) refl ∙ sym (acked_before N t ins)) keep
    where
      keep : (R : ℕ) → Member N M i → Keeps N' rest i R → Keeps N M i R
      keep R _ (stored f e) =
          let same : Some n ≡ Some R = sym (ap rseq_of at.self) ∙ e in
          let r : n ≡ R = cc in
          coming ins p (rw r at t.waits)
      keep R _ (coming h w j) = absurd (settled_in.0 (sym (ap status_of at.self) ∙ h))

  -- R5.10, a leaver hears SetRAck: it was no longer inserted from the grant on
  pub goes_kept : (n : ℕ) → Taken M (set_r_ack p i n) rest → (N i).status ≡ Del → At N i (with_status Out (N i)) N' → Invariant N' rest told joins
  goes_kept n t del at =
      answered limited inv t at (ack-exchange p i n) refl (ack_elsewhere p i n) settled_out refl refl refl refl
      (member-same (ap status_of at.self) refl ∙ sym (acked_before N t del)) (λ R m _. absurd (not-both m (acked_before N t del)))

  -- R5.11: a joiner hears SetRNak
  pub stays-out-kept : Taken M (set_r_nak p i) rest → (N i).status ≡ Ins → At N i (with_status Out (N i)) N' → Invariant N' rest told joins
  stays-out-kept t ins at =
      answered limited inv t at (nak_exchange p i) refl (λ u d. refl) settled_out refl refl refl refl
      (member-same (ap status_of at.self) refl ∙ sym (denied_before limited t ins)) (λ R m _. absurd (not-both m (denied_before limited t ins)))

  -- R5.11: a leaver hears SetRNak
  pub stays-in-kept : Taken M (set_r_nak p i) rest → (N i).status ≡ Del → At N i (with_status In (N i)) N' → Invariant N' rest told joins
  stays-in-kept t del at =
      answered limited inv t at (nak_exchange p i) refl (λ u d. refl) settled_in refl refl refl refl
      (member-same (ap status_of at.self) refl ∙ sym (denied_before limited t del)) keep
    where
      keep : (R : ℕ) → Member N M i → Keeps N' rest i R → Keeps N M i R
      keep R _ (stored f e) = stored (λ h. ins_not_del (sym h ∙ del)) (sym (ap rseq_of at.self) ∙ e)
      keep R _ (coming h w j) = absurd (settled_in.0 (sym (ap status_of at.self) ∙ h))
