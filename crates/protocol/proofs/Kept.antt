-- Each call keeps a network well formed, and loses no request. An order finds a node with no
-- exchanges, which it may give one; a delivered request goes and an answer to the same node comes;
-- a delivered answer goes, and its node has no exchanges left. Each case of `Changes` shows its
-- part, and `Moves` the rest. Assumes nothing.
use mathlib.Core.Path.{◌≡◌, refl, sym, ap, ◌∙◌}
use mathlib.Core.Logic.{◌≢◌}
use mathlib.Core.Bool.{true, false, not, or-false}
use mathlib.Core.List.{List, [], ◌∷◌, ◌++◌}
use Prim.Native.Nat.{ℕ, ◌+◌, ◌≤◌, ◌<◌}
use native.Mathlib.Omega.{arith}
use lib.ListN.{length, length-append}
use lib.Dec.{ltb, eqb}
use borrow.Author.Tests.{lt-ltb, eq-eqb, ne_eqb}
use Rattle.predicates.specs.Tests.{bit, count}
use Rattle.predicates.proofs.Laws.{both, not_left}
use Rattle.predicates.proofs.TestLaws.{bit-true, bit-false, count-append}
use Rattle.sequence.specs.Sequence.{Number, next_seq, capped_next}
use Rattle.parts.specs.declared.Status.TheVariants.{Out, In, Del}
use Rattle.parts.specs.declared.Message.{Message}
use Rattle.parts.specs.Shape.{message_fits}
use Rattle.parts.specs.Tests.{is_out, is_in_or_del, numbered}
use Rattle.node.specs.declared.Node.{Node}
use Rattle.node.specs.Actions.{set_r, set_r_ack, set_r_nak, set_l, with_status, created, joining, relinked}
use Rattle.node.proofs.FitLaws.{NodeFits, MessageFits, message-facts, PostsFit, message-fits, created-fits, joining-fits, out-fits, status-fits, confirmed-fits, relinked-fits, left-set-fits}
use Rattle.protocol.specs.declared.Call.{Call}
use Rattle.protocol.specs.State.{State, queue_limit, node_at, status_at, key_at, is_exchange_of, exchanges}
use Rattle.protocol.specs.Calls.{Result, peer_at}
use Rattle.protocol.proofs.Waiting.{Taken}
use Rattle.protocol.proofs.Facts.{WellFormed}
use Rattle.protocol.proofs.Changes.{Creates, Joins, LeavesAlone, Leaves, Grants}
use Rattle.protocol.proofs.Changes.{Act, drops, lets_in, lets_go, denies, joins, goes, stays_out, stays_in, takes, ignores}
use Rattle.protocol.proofs.Changes.{Accepted, declares, creates, asks, goes_alone, leaves, delivers, Change, refuses, accepts}
use Rattle.protocol.proofs.Moves.{AllFit, with_posts, Moves, Preserves, moved-kept, declare_kept}

-- ---- whose exchange a message is: a request is its sender's; that an answer is the addressee's
-- computes
request_of : (u v p new e n : ℕ) → bit (is_exchange_of u (set_r v p new e n)) ≡ bit (eqb v u)
request_of u v p new e n = ap bit (or-false (eqb v u))

own : (u : ℕ) → bit (eqb u u) ≡ 1
own u = bit-true (eq-eqb u u refl)

another's : (u v : ℕ) → v ≢ u → bit (eqb u v) ≡ 0
another's u v d = bit-false (ne_eqb u v (λ e. d (sym e)))

module _ {s : State} (w : WellFormed s) where
  -- ---- the orders to a node that has no exchanges: it may get one, by its request
  module _ {u : ℕ} {x : Node} (h : u < length s.nodes) (none : exchanges (status_at s u) ≡ 0) (key : x.key ≡ key_at s u) (fits : NodeFits (length s.nodes) x) where
    keeps-messages : exchanges x.status ≡ 0 → Moves s u x s.messages
    keeps-messages still = record {
      declared = h;
      key = key;
      fits = fits;
      few = w.few_messages;
      messages = w.message;
      exchange = omega arith;
      others = λ v d. refl;
    }

    adds-request : (p new e : ℕ) (n : Number) → exchanges x.status ≡ 1 → length s.messages < queue_limit → message_fits (length s.nodes) (set_r u p new e n) ≡ true
        → Moves s u x (s.messages ++ set_r u p new e n ∷ [])
    adds-request p new e n one room posted = record {
      declared = h;
      key = key;
      fits = fits;
      few = omega (arith, length-append s.messages (set_r u p new e n ∷ []));
      messages = with_posts (length s.nodes) s.messages (set_r u p new e n ∷ []) w.message (posted, tt);
      exchange = omega (arith, more u, own u);
      others = λ v d. omega (arith, more v, another's u v d);
    }
      where
        more : (v : ℕ) → count (is_exchange_of v) (s.messages ++ set_r u p new e n ∷ []) ≡ count (is_exchange_of v) s.messages + bit (eqb u v)
        more v = omega (arith, count-append (is_exchange_of v) s.messages (set_r u p new e n ∷ []), request_of v u p new e n)

  create-kept : {u : ℕ} → Creates s u → Moves s u (created u (node_at s u)) s.messages
  create-kept {u} h =
      let u-in = lt-ltb u (length s.nodes) h.declared in
      keeps-messages h.declared (ap exchanges (h.all_out u h.declared)) refl (created-fits (w.node u h.declared) u u-in) refl

  join_kept : {u p q : ℕ} → Joins s u p q → Moves s u (joining (node_at s u) (peer_at s p) (peer_at s q)) (s.messages ++ set_r u p u q (node_at s u).lseq ∷ [])
  join_kept {u} {p} {q} h =
      let u-in = lt-ltb u (length s.nodes) h.declared in
      let p-in = lt-ltb p (length s.nodes) h.left_declared in
      let q-in = lt-ltb q (length s.nodes) h.right_declared in
      adds-request h.declared (ap exchanges h.is_out) refl (joining-fits (w.node u h.declared) (peer_at s p) (peer_at s q) p-in q-in)
      p u q (node_at s u).lseq refl h.room (message-fits (length s.nodes) (set_r u p u q (node_at s u).lseq) u-in p-in (simp (u-in, q-in)))

  leave-alone-kept : {u : ℕ} → LeavesAlone s u → Moves s u (with_status Out (node_at s u)) s.messages
  leave-alone-kept {u} h = keeps-messages h.declared (ap exchanges h.is_in) refl (out-fits (w.node u h.declared)) refl

  leave-kept : {u p q : ℕ} {n : Number} → Leaves s u p q n → Moves s u (with_status Del (node_at s u)) (s.messages ++ set_r u p q u (next_seq n) ∷ [])
  leave-kept {u} {p} {q} {n} h =
      let node = w.node u h.declared in
      let u-in = lt-ltb u (length s.nodes) h.declared in
      let p-in : ltb p (length s.nodes) ≡ true = rw h.left at node.left in
      let q-in : ltb q (length s.nodes) ≡ true = rw h.right at node.right in
      adds-request h.declared (ap exchanges h.is_in) refl (status-fits node Del (ap is_out h.is_in) (ap numbered h.number))
      p q u (next_seq n) refl h.room (message-fits (length s.nodes) (set_r u p q u (next_seq n)) u-in p-in (simp (q-in, u-in)))

  -- ---- the deliveries
  module _ {m : Message} {rest : List Message} (t : Taken s.messages m rest) where
    rest-fits : AllFit (length s.nodes) rest
    rest-fits x i = w.message x (t.left x i)

    -- the node keeps its status, and posts just the exchanges that have gone with the message
    adds-posts : {i : ℕ} {x : Node} (posts : List Message) → i < length s.nodes → x.key ≡ key_at s i → x.status ≡ status_at s i → NodeFits (length s.nodes) x
        → length rest + length posts ≤ queue_limit → PostsFit (length s.nodes) posts → ((u : ℕ) → count (is_exchange_of u) posts ≡ bit (is_exchange_of u m)) → Moves s i x (rest ++ posts)
    adds-posts {i} posts h key status fits few posted instead = record {
      declared = h;
      key = key;
      fits = fits;
      few = omega (arith, length-append rest posts);
      messages = with_posts (length s.nodes) rest posts rest-fits posted;
      exchange = omega (arith, exchange i, ap exchanges status);
      others = λ u d. exchange u;
    }
      where
        exchange : (u : ℕ) → count (is_exchange_of u) (rest ++ posts) ≡ count (is_exchange_of u) s.messages
        exchange u = omega (arith, count-append (is_exchange_of u) rest posts, t.counted (is_exchange_of u), instead u)

    -- the message is an exchange of the node at most, by so much as its status then asks for less
    only-takes : {i : ℕ} {x : Node} → i < length s.nodes → x.key ≡ key_at s i → NodeFits (length s.nodes) x → bit (is_exchange_of i m) + exchanges x.status ≡ exchanges (status_at s i)
        → ((u : ℕ) → u ≢ i → bit (is_exchange_of u m) ≡ 0) → Moves s i x rest
    only-takes {i} h key fits own others = record {
      declared = h;
      key = key;
      fits = fits;
      few = omega (arith, w.few_messages, t.shorter);
      messages = rest-fits;
      exchange = omega (arith, t.counted (is_exchange_of i));
      others = λ u d. omega (arith, t.counted (is_exchange_of u), others u d);
    }

    -- a notice is nobody's exchange
    keeps-status : {i : ℕ} {x : Node} → i < length s.nodes → x.key ≡ key_at s i → x.status ≡ status_at s i → NodeFits (length s.nodes) x → ((u : ℕ) → is_exchange_of u m ≡ false)
        → Moves s i x rest
    keeps-status {i} h key status fits none = only-takes h key fits (omega (arith, bit-false (none i), ap exchanges status)) (λ u d. bit-false (none u))

    -- the one exchange of the node goes with the message, and it then waits for nothing
    is-answered : {u : ℕ} {x : Node} → u < length s.nodes → ((v : ℕ) → is_exchange_of v m ≡ eqb u v) → exchanges (status_at s u) ≡ 1 → exchanges x.status ≡ 0
        → x.key ≡ key_at s u → NodeFits (length s.nodes) x → Moves s u x rest
    is-answered {u} h its one still key fits = only-takes h key fits (omega (arith, ap bit (its u), own u)) (λ v d. ap bit (its v) ∙ another's u v d)

  -- a request goes, and an answer to its sender comes
  module _ {v p new e : ℕ} {n : Number} {rest : List Message} (t : Taken s.messages (set_r v p new e n) rest) (h : p < length s.nodes) where
    asked : MessageFits (length s.nodes) (set_r v p new e n)
    asked = message-facts (length s.nodes) (set_r v p new e n) (w.message _ t.waits)

    named : (ltb new (length s.nodes) ≡ true) × (ltb e (length s.nodes) ≡ true)
    named = both (ltb new (length s.nodes)) (ltb e (length s.nodes)) asked.kind

    grant-kept : {k : ℕ} (to left number reply : ℕ) → Grants s p e k → ltb to (length s.nodes) ≡ true → ltb left (length s.nodes) ≡ true
        → Moves s p (relinked (node_at s p) new n) (rest ++ set_l p to left number ∷ set_r_ack p v reply ∷ [])
    grant-kept to left number reply g to-fits left-fits =
        let notice = message-fits (length s.nodes) (set_l p to left number) asked.to to-fits left-fits in
        let answer = message-fits (length s.nodes) (set_r_ack p v reply) asked.to asked.sender refl in
        adds-posts t (set_l p to left number ∷ set_r_ack p v reply ∷ []) h refl refl (relinked-fits (w.node p h) new n named.0 (ap is_out g.is_in))
        (omega (arith, g.room, t.shorter)) (notice, (answer, tt)) (λ u. omega (arith, request_of u v p new e n))

    deny-kept : Moves s p (node_at s p) (rest ++ set_r_nak p v ∷ [])
    deny-kept =
        let answer = message-fits (length s.nodes) (set_r_nak p v) asked.to asked.sender refl in
        adds-posts t (set_r_nak p v ∷ []) h refl refl (w.node p h)
        (omega (arith, w.few_messages, t.shorter)) (answer, tt) (λ u. omega (arith, request_of u v p new e n))

  act-kept : {m : Message} {rest : List Message} {r : Result} → Taken s.messages m rest → m.to < length s.nodes → Act s m rest r → Preserves s r.state
  act-kept t h (drops p u a n em out er) =
      let h : u < length s.nodes = rw em at h in
      rw er (moved-kept w (keeps-status t h refl refl (w.node u h) (λ v. rw em)))
  act-kept {rest} t h (lets_in v p e n k em g room er) =
      let t : Taken s.messages (set_r v p v e n) rest = rw em at t in
      let h : p < length s.nodes = rw em at h in
      rw er (moved-kept w (grant-kept t h e v (next_seq k) (next_seq k) g (named t h).1 (named t h).0))
  act-kept {rest} t h (lets_go v p new e n k em d g er) =
      let t : Taken s.messages (set_r v p new e n) rest = rw em at t in
      let h : p < length s.nodes = rw em at h in
      rw er (moved-kept w (grant-kept t h new p n (capped_next k) g (named t h).0 (asked t h).to))
  act-kept t h (denies v p new e n em er) = rw er (moved-kept w (deny-kept (rw em at t) (rw em at h)))
  act-kept t h (joins p u n em e er) =
      let h : u < length s.nodes = rw em at h in
      rw er (moved-kept w (is-answered t h (λ v. rw em) (ap exchanges e) refl refl (confirmed-fits (w.node u h) n (ap is_out e))))
  act-kept t h (goes p u n em e er) =
      let h : u < length s.nodes = rw em at h in
      rw er (moved-kept w (is-answered t h (λ v. rw em) (ap exchanges e) refl refl (out-fits (w.node u h))))
  act-kept t h (stays_out p u em e er) =
      let h : u < length s.nodes = rw em at h in
      rw er (moved-kept w (is-answered t h (λ v. rw em) (ap exchanges e) refl refl (out-fits (w.node u h))))
  act-kept t h (stays_in p u em e er) =
      let h : u < length s.nodes = rw em at h in
      let f = w.node u h in
      let has-number = not_left (not (is_in_or_del (status_at s u))) (numbered (node_at s u).rseq) (ap (λ x. not (is_in_or_del x)) e) f.seq in
      rw er (moved-kept w (is-answered t h (λ v. rw em) (ap exchanges e) refl refl (status-fits f In (ap is_out e) has-number)))
  act-kept {m} t h (takes p u a n em o new er) =
      let a_in : ltb a (length s.nodes) ≡ true = rw em at (message-facts (length s.nodes) m (w.message m t.waits)).kind in
      let h : u < length s.nodes = rw em at h in
      rw er (moved-kept w (keeps-status t h refl refl (left-set-fits (w.node u h) a n a_in) (λ v. rw em)))
  act-kept t h (ignores p u a n em o old er) =
      let h : u < length s.nodes = rw em at h in
      rw er (moved-kept w (keeps-status t h refl refl (w.node u h) (λ v. rw em)))

accepted-kept : {s : State} {call : Call} {r : Result} → WellFormed s → Accepted s call r → Preserves s r.state
accepted-kept w (declares key ec h er) = rw er (declare_kept w h)
accepted-kept w (creates u ec h er) = rw er (moved-kept w (create-kept w h))
accepted-kept w (asks u p q ec h er) = rw er (moved-kept w (join_kept w h))
accepted-kept w (goes_alone u ec h er) = rw er (moved-kept w (leave-alone-kept w h))
accepted-kept w (leaves u p q n ec h er) = rw er (moved-kept w (leave-kept w h))
accepted-kept w (delivers place m rest ec h act) = act-kept w h.taken h.declared act

pub preserves : {s : State} {call : Call} {r : Result} → WellFormed s → Change s call r → Preserves s r.state
preserves w (refuses n er) = rw er (record { well_formed = w; balanced = λ u. refl })
preserves w (accepts a) = accepted-kept w a

pub kept : {s : State} {call : Call} {r : Result} → WellFormed s → Change s call r → WellFormed r.state
kept w c = (preserves w c).well_formed
