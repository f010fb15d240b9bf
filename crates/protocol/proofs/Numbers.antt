-- No list of calls leads to a number above the last one: each number that a call stores or posts is
-- one that was there, the first, the capped next, or the next of one that has a next; the last by
-- refusal 27 and by what a join is granted on. Assumes nothing.
use mathlib.Core.Path.{◌≡◌, refl, ap, ◌∙◌}
use mathlib.Core.Logic.{⊎_elim}
use mathlib.Core.Bool.{true, ◌&&◌}
use mathlib.Core.List.{List, [], ◌∷◌, ◌++◌}
use Prim.Native.Nat.{ℕ, ◌<◌}
use native.Mathlib.Decide.{ℕ_discrete}
use lib.ListN.{length}
use Rattle.predicates.proofs.TestLaws.{◌∈◌, all_pass, below_all}
use Rattle.sequence.specs.Sequence.{is_seq, next_seq, capped_next}
use Rattle.sequence.proofs.Laws.{first_fits, next_fits, capped_fits}
use Rattle.parts.specs.declared.Message.{Message}
use Rattle.node.specs.declared.Node.{Node}
use Rattle.node.specs.Actions.{set_r, set_r_ack, set_r_nak, set_l}
use Rattle.protocol.specs.declared.Call.{Call}
use Rattle.protocol.specs.State.{State, node_at, numbers_fit}
use Rattle.parts.specs.Tests.{seq_fits, number_fits}
use Rattle.protocol.specs.Calls.{Result}
use Rattle.protocol.proofs.Fields.{lseq_of, rseq_of}
use Rattle.protocol.proofs.Nodes.{At, set_at, declared-at}
use Rattle.protocol.proofs.Waiting.{Taken, in_one, in_two}
use Rattle.protocol.proofs.Changes.{Act, drops, lets_in, lets_go, denies, joins, goes, stays_out, stays_in, takes, ignores}
use Rattle.protocol.proofs.Changes.{Accepted, declares, creates, asks, goes_alone, leaves, delivers, Change, refuses, accepts}

-- the facts that the test says
pub record NumbersFit (N : ℕ → Node) (M : List Message) : Type 0 where
  pub left : (u : ℕ) → is_seq (N u).lseq ≡ true
  pub right : (u : ℕ) → seq_fits (N u).rseq ≡ true
  pub waiting : (m : Message) → m ∈ M → number_fits m.kind ≡ true

pub numbers-tested : (s : State) → NumbersFit (node_at s) s.messages → numbers_fit s ≡ true
unfolding numbers_fit
numbers-tested s f = simp (below_all (length s.nodes) (λ u. is_seq (node_at s u).lseq && seq_fits (node_at s u).rseq) at, all_pass (λ m. number_fits m.kind) s.messages f.waiting)
  where
    at : (u : ℕ) → u < length s.nodes → (is_seq (node_at s u).lseq && seq_fits (node_at s u).rseq) ≡ true
    at u k = rw (f.left u) (f.right u)

-- node i stands as x, and these messages wait
stands : {N N' : ℕ → Node} {M M' : List Message} {i : ℕ} {x : Node} → NumbersFit N M → At N i x N' → is_seq x.lseq ≡ true → seq_fits x.rseq ≡ true
    → ((m : Message) → m ∈ M' → number_fits m.kind ≡ true) → NumbersFit N' M'
stands {N} {N'} {i = i} {x} f at l r w = record { left = λ u. left u (ℕ_discrete u i); right = λ u. right u (ℕ_discrete u i); waiting = w }
  where
    left : (u : ℕ) → Dec (u ≡ i) → is_seq (N' u).lseq ≡ true
    left u (yes e) = ap (λ v. is_seq (N' v).lseq) e ∙ ap (λ y. is_seq (lseq_of y)) at.self ∙ l
    left u (no d) = ap (λ y. is_seq (lseq_of y)) (at.others u d) ∙ f.left u

    right : (u : ℕ) → Dec (u ≡ i) → seq_fits (N' u).rseq ≡ true
    right u (yes e) = ap (λ v. seq_fits (N' v).rseq) e ∙ ap (λ y. seq_fits (rseq_of y)) at.self ∙ r
    right u (no d) = ap (λ y. seq_fits (rseq_of y)) (at.others u d) ∙ f.right u

module _ (s : State) (f : NumbersFit (node_at s) s.messages) where
  posts-one : (rest : List Message) (a : Message) → ((m : Message) → m ∈ rest → m ∈ s.messages) → number_fits a.kind ≡ true
      → (m : Message) → m ∈ (rest ++ a ∷ []) → number_fits m.kind ≡ true
  posts-one rest a old h m j = ⊎_elim (λ k. f.waiting m (old m k)) (λ (e : m ≡ a). rw e h) (in_one rest j)

  module _ {m : Message} {rest : List Message} (t : Taken s.messages m rest) (k : m.to < length s.nodes) where
    left_over : (x : Message) → x ∈ rest → number_fits x.kind ≡ true
    left_over x j = f.waiting x (t.left x j)

    posts-two : (a b : Message) → number_fits a.kind ≡ true → number_fits b.kind ≡ true → (x : Message) → x ∈ (rest ++ a ∷ b ∷ []) → number_fits x.kind ≡ true
    posts-two a b ha hb x j = ⊎_elim (left_over x) (⊎_elim (λ (e : x ≡ a). rw e ha) (λ (e : x ≡ b). rw e hb)) (in_two rest j)

    -- the number that the message carries
    carried : (y : Message) → m ≡ y → number_fits y.kind ≡ true
    carried y e = rw e at (f.waiting m t.waits)

    act-fits : {r : Result} → Act s m rest r → NumbersFit (node_at r.state) r.state.messages
    act-fits (drops p u a n em out er) = rw er (stands f (set_at s.nodes (rw em at k)) (f.left u) (f.right u) left_over)
    act-fits (lets_in v p e n l em g room er) =
        rw er (stands f (set_at s.nodes (rw em at k)) (f.left p) (carried (set_r v p v e n) em) (posts-two (set_l p e v (next_seq l)) (set_r_ack p v (next_seq l)) (next_fits l room) (next_fits l room)))
    act-fits (lets_go v p new e n l em d g er) =
        rw er (stands f (set_at s.nodes (rw em at k)) (f.left p) (carried (set_r v p new e n) em) (posts-two (set_l p new p n) (set_r_ack p v (capped_next l)) (carried (set_r v p new e n) em) (capped_fits l)))
    act-fits (denies v p new e n em er) = rw er (stands f (set_at s.nodes (rw em at k)) (f.left p) (f.right p) (posts-one rest (set_r_nak p v) t.left refl))
    act-fits (joins p u n em e er) = rw er (stands f (set_at s.nodes (rw em at k)) (f.left u) (carried (set_r_ack p u n) em) left_over)
    act-fits (goes p u n em e er) = rw er (stands f (set_at s.nodes (rw em at k)) (f.left u) (f.right u) left_over)
    act-fits (stays_out p u em e er) = rw er (stands f (set_at s.nodes (rw em at k)) (f.left u) (f.right u) left_over)
    act-fits (stays_in p u em e er) = rw er (stands f (set_at s.nodes (rw em at k)) (f.left u) (f.right u) left_over)
    act-fits (takes p u a n em o new er) = rw er (stands f (set_at s.nodes (rw em at k)) (carried (set_l p u a n) em) (f.right u) left_over)
    act-fits (ignores p u a n em o old er) = rw er (stands f (set_at s.nodes (rw em at k)) (f.left u) (f.right u) left_over)

  accepted-fits : {call : Call} {r : Result} → Accepted s call r → NumbersFit (node_at r.state) r.state.messages
  accepted-fits (declares key ec h er) = rw er (stands f (declared-at s key) first_fits refl f.waiting)
  accepted-fits (creates u ec h er) = rw er (stands f (set_at s.nodes h.declared) first_fits first_fits f.waiting)
  accepted-fits (asks u p q ec h er) =
      rw er (stands f (set_at s.nodes h.declared) (f.left u) (f.right u) (posts-one s.messages (set_r u p u q (node_at s u).lseq) (λ m i. i) (f.left u)))
  accepted-fits (goes_alone u ec h er) = rw er (stands f (set_at s.nodes h.declared) (f.left u) (f.right u) f.waiting)
  accepted-fits (leaves u p q n ec h er) =
      rw er (stands f (set_at s.nodes h.declared) (f.left u) (f.right u) (posts-one s.messages (set_r u p q u (next_seq n)) (λ m i. i) (next_fits n h.unspent)))
  accepted-fits (delivers place m rest ec h act) = act-fits h.taken h.declared act

  pub numbers-kept : {call : Call} {r : Result} → Change s call r → NumbersFit (node_at r.state) r.state.messages
  numbers-kept (refuses n er) = rw er f
  numbers-kept (accepts a) = accepted-fits a
