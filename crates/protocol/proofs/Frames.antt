-- What a step leaves as it was. A step changes one node and the queue; most of the invariant then
-- holds because the parts that it speaks of are the same before and after. Assumes nothing.
use Rattle.std.specs.Prelude.{Some}
use mathlib.Core.Path.{◌≡◌, sym, ap, ◌∙◌}
use mathlib.Core.Logic.{◌≢◌}
use mathlib.Core.Bool.{Bool}
use mathlib.Core.List.{List}
use Prim.Native.Nat.{ℕ}
use Rattle.sequence.specs.Sequence.{Number}
use Rattle.predicates.specs.Tests.{any}
use Rattle.predicates.proofs.Laws.{impossible}
use Rattle.predicates.proofs.TestLaws.{◌∈◌, not-both}
use Rattle.links.proofs.Circuit.{ring-kept, next-in}
use Rattle.parts.specs.declared.Status.{Status}
use Rattle.parts.specs.declared.Status.TheVariants.{Out, Ins, In, Del}
use Rattle.parts.specs.declared.Message.{Message}
use Rattle.node.specs.declared.Node.{Node}
use Rattle.node.specs.Actions.{set_r_ack, set_l}
use Rattle.protocol.specs.State.{is_ack_to, is_inserted}
use Rattle.protocol.specs.Claim.{Settled}
use Rattle.protocol.proofs.Fields.{status_of}
use Rattle.protocol.proofs.Invariant.{is_member, Member, Request, Keeps, stored, coming, LeftLink, Round}

-- a status that waits for no answer
pub settled_in : Settled In
settled_in = (λ e. impossible cc, λ e. impossible cc)

pub settled_out : Settled Out
settled_out = (λ e. impossible cc, λ e. impossible cc)

pub ins_not_del : Ins ≢ Del
ins_not_del e = impossible cc

-- ---- parts of the invariant
pub member-same : {s s' : Status} {b b' : Bool} → s' ≡ s → b' ≡ b → is_inserted s' b' ≡ is_inserted s b
member-same e f = rw (e, f)

pub member_not_out : (N : ℕ → Node) (M : List Message) (u : ℕ) → Member N M u → (N u).status ≢ Out
member_not_out N M u t e = not-both t (ap (λ s. is_inserted s (any (is_ack_to u) M)) e)

pub request-same : {N N' : ℕ → Node} {v p new e : ℕ} {n : Number} → N' v ≡ N v → (N' p).key ≡ (N p).key → (N' e).key ≡ (N e).key → Request N v p new e n → Request N' v p new e n
request-same {N} {N'} {v} {p} {new} {e} {n} same at_p at-e r = record {
  by_joiner = λ h. let b = r.by_joiner (sym (ap status_of same) ∙ h) in
      record { itself = b.itself; left = rw same b.left; right = rw same b.right; number = rw same b.number; between = rw (same, at_p, at-e) b.between };
  by_leaver = λ h. let b = r.by_leaver (sym (ap status_of same) ∙ h) in
      record { right = rw same b.right; another = b.another; expected = b.expected; number = rw same b.number };
}

pub keeps_same : {N N' : ℕ → Node} {M M' : List Message} {v : ℕ} {R : Number} → (N' v).status ≡ (N v).status → (N' v).rseq ≡ (N v).rseq
    → ((w : ℕ) → set_r_ack w v R ∈ M' → set_r_ack w v R ∈ M) → Keeps N' M' v R → Keeps N M v R
keeps_same st sq acks (stored n e) = stored (λ h. n (st ∙ h)) (sym sq ∙ e)
keeps_same st sq acks (coming h w i) = coming (sym st ∙ h) w (acks w i)

pub left-same : {N N' : ℕ → Node} {M M' : List Message} {v u : ℕ} {R : Number} → (N' u).lseq ≡ (N u).lseq → (N' u).left ≡ (N u).left
    → ((w a : ℕ) (n : Number) → set_l w u a n ∈ M' → set_l w u a n ∈ M) → ((w a : ℕ) (n : Number) → set_l w u a n ∈ M → set_l w u a n ∈ M') → LeftLink N M v u R → LeftLink N' M' v u R
left-same {u} {R} sl ll from to k = record {
  reached = rw sl k.reached;
  noticed = λ w a n i. k.noticed w a n (from w a n i);
  named = λ w a i. k.named w a (from w a R i);
  current = λ e. ll ∙ k.current (sym sl ∙ e);
  awaited = λ d. let (w, a, i) = k.awaited (λ e. d (sl ∙ e)) in (w, a, to w a R i);
}

-- no member comes or goes, and none is relinked
pub record SameRing (N : ℕ → Node) (M : List Message) (N' : ℕ → Node) (M' : List Message) : Type 0 where
  pub member : (u : ℕ) → is_member N' M' u ≡ is_member N M u
  pub key : (u : ℕ) → Member N M u → (N' u).key ≡ (N u).key
  pub right : (u : ℕ) → Member N M u → (N' u).right ≡ (N u).right
  pub keeps : (v : ℕ) (R : Number) → Member N M v → Keeps N' M' v R → Keeps N M v R
  pub lefts : (v u : ℕ) (R : Number) → Member N M u → LeftLink N M v u R → LeftLink N' M' v u R

pub same-order : {N N' : ℕ → Node} {M M' : List Message} {told : ℕ → Bool} → SameRing N M N' M' → Round N M told → Round N' M' told
same-order {N} {N'} {M} {M'} same o = record {
  order = o.order;
  ring = ring-kept o.ring (λ m i. same.key m ((o.members m).0 i)) (λ m i. same.right m ((o.members m).0 i));
  members = λ u. (λ i. same.member u ∙ (o.members u).0 i, λ t. (o.members u).1 (sym (same.member u) ∙ t));
  as_told = λ u. o.as_told u ∙ sym (same.member u);
  lefts = λ v u R t r k.
      let mv : Member N M v = sym (same.member v) ∙ t in
      let at : (N v).right ≡ Some u = sym (same.right v mv) ∙ r in
      let mu : Member N M u = (o.members u).0 (next-in o.ring ((o.members v).1 mv) at) in
      same.lefts v u R mu (o.lefts v u R mv at (same.keeps v R mv k));
}
