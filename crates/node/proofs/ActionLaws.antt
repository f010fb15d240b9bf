-- Laws of the actions, for the proofs of those who build on a node's step. Assumes nothing.
use Rattle.std.specs.Prelude.{Some, None}
use mathlib.Core.Path.{◌≡◌, refl, ap}
use mathlib.Core.Logic.{◌≢◌}
use mathlib.Core.Bool.{true, false, not, ◌&&◌}
use Prim.Native.Nat.{ℕ}
use lib.Dec.{eqb}
use borrow.Author.Tests.{eqb-true, eq-eqb, ne_eqb}
use Rattle.predicates.proofs.Laws.{impossible, both}
use Rattle.refusal.proofs.Laws.{Cleared}
use Rattle.sequence.specs.Sequence.{next_seq, has_next, capped_next}
use Rattle.sequence.proofs.Laws.{capped-next}
use Rattle.parts.specs.declared.Status.{Status}
use Rattle.parts.specs.declared.Status.TheVariants.{Out, Ins, In, Del}
use Rattle.parts.specs.declared.Message.{Message}
use Rattle.parts.specs.Tests.{Link, is_out, is_in, target, links_to, seq_of}
use Rattle.node.specs.declared.Node.{Node}
use Rattle.node.specs.declared.Peer.{Peer}
use Rattle.node.specs.declared.Outcome.TheVariants.{Created, Waiting, LeftAlone}
use Rattle.node.specs.Shape.{well_formed, peer_fits}
use Rattle.node.specs.Actions.{set_r, set_r_ack, set_l, with_status, quiet, posting, create_rules, created, create_of, join_rules, joining, join_unchecked, join_of, alone, leave_rules, leave_unchecked, leave_request, leave_of, grants, relinked, granting, on_set_r, act_of, receive_rules, receive_of}

-- ---- what the tests say
pub tested_out : (s : Status) → is_out s ≡ true → s ≡ Out
tested_out Out h = refl
tested_out Ins h = impossible h
tested_out In h = impossible h
tested_out Del h = impossible h

pub tested_in : (s : Status) → is_in s ≡ true → s ≡ In
tested_in Out h = impossible h
tested_in Ins h = impossible h
tested_in In h = refl
tested_in Del h = impossible h

pub tested-link : (l : Link) (n : ℕ) → links_to l n ≡ true → l ≡ Some n
tested-link None n h = impossible h
tested-link (Some m) n h = ap Some (eqb-true m n h)

-- what a granted request shows of the node that grants it
pub record Grant (p : Node) (v new expected : ℕ) : Type 0 where
  pub is_in : is_in p.status ≡ true
  pub right : links_to p.right expected ≡ true
  pub room : eqb new v ≡ true → has_next (seq_of p.rseq) ≡ true

pub granted : (p : Node) (v new expected : ℕ) → grants p v new expected ≡ true → Grant p v new expected
unfolding grants
granted p v new expected h =
    let a = both (is_in p.status) _ h in
    let b = both (links_to p.right expected) _ a.1 in
    record { is_in = a.0; right = b.0; room = λ e. (rw e at b).1 }

-- ---- a leave that asks: the capped number is the next one
pub leave_asks : (me : ℕ) (u : Node) → is_in u.status ≡ true → alone me u ≡ false → has_next (seq_of u.rseq) ≡ true
    → posting (with_status Del u) (leave_request me u (capped_next (seq_of u.rseq))) Waiting ≡ leave_unchecked me u
unfolding leave_unchecked
leave_asks me u inside e room = rw (inside, e, room, capped-next (seq_of u.rseq) room)

-- ---- what a step does that no rule of its own refuses, with each message spelled out
module _ (me : ℕ) (u : Node) where
  pub create-accepted : Cleared (create_rules me u) → create_of me u ≡ quiet (created me u) Created
  unfolding create_of
  create-accepted (sound, (out, _)) = rw (sound, out)

  -- the request carries the joiner's left number
  pub join-accepted : (p q : Peer) → Cleared (join_rules me u p q) → join_of me u p q ≡ posting (joining u p q) (set_r me p.number me q.number u.lseq) Waiting
  unfolding join_of
  join-accepted p q (sound, (out, (lies, _))) = rw (sound, out, lies)

  pub leave-alone-accepted : Cleared (leave_rules me u) → alone me u ≡ true → leave_of me u ≡ quiet (with_status Out u) LeftAlone
  unfolding leave_of
  leave-alone-accepted (sound, (inside, (unspent, _))) e = rw (sound, inside, unspent, e)

  -- the request carries the number after the leaver's right number
  pub leave-accepted : Cleared (leave_rules me u) → alone me u ≡ false
      → leave_of me u ≡ posting (with_status Del u) (set_r me (target u.left) (target u.right) me (next_seq (seq_of u.rseq))) Waiting
  unfolding leave_of
  leave-accepted (sound, (inside, (unspent, _))) e = rw (sound, inside, unspent, e)

  pub receive-accepted : (m : Message) → Cleared (receive_rules me u m) → receive_of me u m ≡ act_of me u m.sender m.kind
  unfolding receive_of
  receive-accepted m (sound, _) = rw sound

-- ---- past the test of shape a step is the tested one
module _ (me : ℕ) (u : Node) where
  pub join-tested : (p q : Peer) → not (well_formed me u && (peer_fits p && peer_fits q)) ≡ false → join_unchecked me u p q ≡ join_of me u p q
  unfolding join_of join_unchecked
  join-tested p q sound = rw sound

  pub leave-tested : not (well_formed me u) ≡ false → leave_unchecked me u ≡ leave_of me u
  unfolding leave_of leave_unchecked
  leave-tested sound = rw sound

-- ---- what a granted request comes to: the notice is for the node that has a new left neighbour
module _ (p : Node) (me v new expected number : ℕ) (g : grants p v new expected ≡ true) where
  pub join-granted : new ≡ v → on_set_r me p v new expected number
      ≡ granting (relinked p v number) (set_l me expected v (next_seq (seq_of p.rseq))) (set_r_ack me v (next_seq (seq_of p.rseq)))
  join-granted e =
      let facts = granted p v new expected g in
      let same = eq-eqb new v e in
      let to = ap target (tested-link p.right expected facts.right) in
      rw (g, same, to, capped-next (seq_of p.rseq) (facts.room same), e)

  pub leave-granted : new ≢ v → on_set_r me p v new expected number ≡ granting (relinked p new number) (set_l me new me number) (set_r_ack me v (capped_next (seq_of p.rseq)))
  leave-granted d = rw (g, ne_eqb new v d)
