-- What the network's rules before and after a node's step come to. Where the step's own rules let
-- it pass, what it posts is known: so that the rule on room, read off the posts, is refusal 28 as
-- R6.7, R6.8, R6.9 have it. Assumes nothing.
use mathlib.Core.Path.{◌≡◌, refl, sym, ap, ◌∙◌}
use mathlib.Core.Logic.{⊎_elim}
use mathlib.Core.Bool.{Bool, true, false, not, ◌&&◌, cond, and-true, and-false}
use mathlib.Core.List.{List, [], ◌∷◌, ◌++◌}
use Rattle.std.specs.Prelude.{Option, None, Some}
use Prim.Native.Nat.{ℕ, suc, ◌+◌, ◌-◌, ◌≤◌, ◌<◌}
use native.Mathlib.Omega.{arith}
use lib.ListN.{length}
use lib.Dec.{leb, ltb}
use borrow.Author.Tests.{ltb-true, le-leb, lt-ltb}
use Rattle.predicates.proofs.Laws.{impossible, by_test}
use Rattle.predicates.proofs.TestLaws.{decided}
use Rattle.refusal.specs.Code.{Reason}
use Rattle.refusal.specs.Rules.{done, Rule, ◌when◌, first, unless_refused, ruled}
use Rattle.refusal.proofs.Laws.{first_append, cleared, after_rules}
use Rattle.sequence.specs.Sequence.{newer, next_seq}
use Rattle.parts.specs.declared.Status.{Status}
use Rattle.parts.specs.declared.Status.TheVariants.{Out, Ins, In, Del}
use Rattle.node.specs.declared.Node.{Node}
use Rattle.node.specs.declared.Peer.{Peer}
use Rattle.parts.specs.declared.Kind.{Kind}
use Rattle.parts.specs.declared.Kind.TheVariants.{SetR, SetRAck, SetRNak, SetL}
use Rattle.parts.specs.declared.Message.{Message}
use Rattle.parts.specs.declared.Posts.{Posts}
use Rattle.parts.specs.declared.Posts.TheVariants.{Nothing, One, Two}
use Rattle.node.specs.declared.Outcome.{Outcome}
use Rattle.node.specs.declared.Outcome.TheVariants.{Waiting, LeftAlone}
use Rattle.parts.specs.Tests.{is_out, is_in, seq_of}
use Rattle.parts.specs.Posts.{posted}
use Rattle.node.specs.Actions.{Effect, refused, quiet, posting, with_status, not_between, create_rules, creating, create_of, join_rules, asking, join_of, alone, leave_rules, leave_request, leaving, leave_of, on_set_r_ack, on_set_r_nak, on_kind, while_out, act_of, would_grant}
use Rattle.node.proofs.ActionLaws.{granted, join-accepted, leave-alone-accepted, leave-accepted}
use Rattle.protocol.specs.State.{State, queue_limit, declared, node_at, notice_waits, well_formed}
use Rattle.protocol.specs.Calls.{is_full, peer_at, join_rules as join_call_rules, leave_rules as leave_call_rules, message_at, is_grantable, deliver_rules, receiving}
use Rattle.protocol.proofs.Facts.{WellFormed, tested, join-sound}
use Rattle.protocol.proofs.Waiting.{taken}
use Rattle.protocol.proofs.Cases.{received}
use Rattle.decision.specs.Decided.{after_step, room_tests}
use Rattle.rules.specs.Decisions.{before_joining}

-- ---- how much a step posts
in_is_not_out : (status : Status) → is_in status ≡ true → is_out status ≡ false
in_is_not_out Out e = impossible e
in_is_not_out Ins e = refl
in_is_not_out In e = refl
in_is_not_out Del e = refl

pub few-posts : (p : Posts) → length (posted p) ≤ 2
few-posts Nothing = omega arith
few-posts (One m) = omega arith
few-posts (Two m n) = omega arith

pub create_posts : (me : ℕ) (u : Node) → length (create_of me u).posts ≡ 0
unfolding create_of
create_posts me u = go (first (create_rules me u))
  where
    go : (o : Option Reason) → length (unless_refused o (refused u) (creating me u)).posts ≡ 0
    go None = refl
    go (Some n) = refl

module _ (u : Node) where
  ack-posts : (status : Status) (n : ℕ) → length (on_set_r_ack status u n).posts ≤ 1
  ack-posts Out n = omega arith
  ack-posts Ins n = omega arith
  ack-posts In n = omega arith
  ack-posts Del n = omega arith

  nak-posts : (status : Status) → length (on_set_r_nak status u).posts ≤ 1
  nak-posts Out = omega arith
  nak-posts Ins = omega arith
  nak-posts In = omega arith
  nak-posts Del = omega arith

-- ---- the rule on room
-- with one post there is no room exactly where 64 messages wait
full-by-one : (n : ℕ) → not (leb (n + 1) queue_limit) ≡ not (ltb n queue_limit)
full-by-one n = let e : n + 1 ≡ suc n = omega arith in rw e

-- ---- the rules after a step's own
-- rest is what the rules name, and what the code tests instead agrees with it where the step's own
-- rules let it pass
after-own : (rules rest : List Rule) (u : Node) (accepted : Effect) (o : Outcome) (tested : Option Reason) → accepted.said ≡ done o
    → (first rules ≡ None → tested ≡ first rest) → after_step (ruled rules (refused u) accepted).said tested ≡ first (rules ++ rest)
after-own rules rest u accepted o tested says agrees = go (first rules) refl ∙ sym (first_append rules rest)
  where
    go : (f : Option Reason) → first rules ≡ f → after_step (unless_refused f (refused u) accepted).said tested ≡ unless_refused f Some (first rest)
    go None e = rw says (agrees e)
    go (Some n) e = refl

-- the posts of a join that its own rules let pass, and of a leave
joined_posts : (me : ℕ) (u : Node) (p q : Peer) → first (join_rules me u p q) ≡ None → length (join_of me u p q).posts ≡ 1
joined_posts me u p q clear = ap (λ (e : Effect). length e.posts) (join-accepted me u p q (cleared (join_rules me u p q) clear))

module _ (me : ℕ) (u : Node) (clear : first (leave_rules me u) ≡ None) where
  alone-posts : alone me u ≡ true → length (leave_of me u).posts ≡ 0
  alone-posts e = ap (λ (e : Effect). length e.posts) (leave-alone-accepted me u (cleared (leave_rules me u) clear) e)

  left-posts : alone me u ≡ false → length (leave_of me u).posts ≡ 1
  left-posts e = ap (λ (e : Effect). length e.posts) (leave-accepted me u (cleared (leave_rules me u) clear) e)

leaving-says : (me : ℕ) (u : Node) → (o : Outcome) × ((leaving me u).said ≡ done o)
leaving-says me u = go (alone me u)
  where
    go : (b : Bool) → (o : Outcome) × ((cond b (quiet (with_status Out u) LeftAlone) (posting (with_status Del u) (leave_request me u (next_seq (seq_of u.rseq))) Waiting)).said ≡ done o)
    go true = (LeftAlone, refl)
    go false = (Waiting, refl)

-- and of a message received: two where a request is granted, and else one at most
module _ (me : ℕ) (u : Node) (v : ℕ) where
  granted-posts : (kind : Kind) → would_grant u v kind ≡ true → length (act_of me u v kind).posts ≡ 2
  granted-posts (SetR new e n) g = rw (in_is_not_out u.status (granted u v new e g).is_in, g)
  granted-posts (SetRAck n) g = impossible g
  granted-posts SetRNak g = impossible g
  granted-posts (SetL left n) g = impossible g

  other-posts : (kind : Kind) → would_grant u v kind ≡ false → length (act_of me u v kind).posts ≤ 1
  other-posts kind f = by_test (λ (e : Effect). length e.posts ≤ 1) (is_out u.status) _ _ (λ _. out kind) (λ _. acting kind f)
    where
      out : (kind : Kind) → length (while_out me u v kind).posts ≤ 1
      out (SetR new e n) = omega arith
      out (SetRAck n) = omega arith
      out SetRNak = omega arith
      out (SetL left n) = omega arith

      acting : (kind : Kind) → would_grant u v kind ≡ false → length (on_kind me u v kind).posts ≤ 1
      acting (SetR new e n) f = rw f (omega arith)
      acting (SetRAck n) f = ack-posts u u.status n
      acting SetRNak f = nak-posts u u.status
      acting (SetL left n) f = by_test (λ (e : Effect). length e.posts ≤ 1) (newer n u.lseq) _ _ (λ _. omega arith) (λ _. omega arith)

-- ---- the calls
module _ (s : State) (w : WellFormed s) where
  sound : not (well_formed s) ≡ false
  sound = ap not (tested s w)

  -- R6.7: 23 and 25 before the step, 28 after it
  pub join-says : (u p q : ℕ) → declared s u ≡ true → declared s p ≡ true → declared s q ≡ true
      → unless_refused (first (before_joining (node_at s u) (notice_waits s u))) Some
      (after_step (join_of u (node_at s u) (peer_at s p) (peer_at s q)).said (first (room_tests (length s.messages) (join_of u (node_at s u) (peer_at s p) (peer_at s q)).posts)))
      ≡ first (join_call_rules s u p q)
  unfolding join_of
  join-says u p q known left right =
      let own = join_rules u (node_at s u) (peer_at s p) (peer_at s q) in
      let earlier = before_joining (node_at s u) (notice_waits s u) in
      let shaped = join-sound w u p q (ltb-true _ _ known) (ltb-true _ _ left) (ltb-true _ _ right) in
      rw (sound, known, left, right)
      (after_rules earlier (λ (out, _).
      after-own own ((28 when is_full s) ∷ []) (node_at s u) (asking u (node_at s u) (peer_at s p) (peer_at s q)) Waiting _ refl
      (λ clear. rw (joined_posts u (node_at s u) (peer_at s p) (peer_at s q) clear, full-by-one (length s.messages)))
      ∙ rw (shaped, out))
      ∙ sym (first_append earlier (not_between (node_at s u) (peer_at s p) (peer_at s q) ∷ (28 when is_full s) ∷ [])))

  -- R6.8: 28 of a leave that posts
  pub leave-says : (u : ℕ) → declared s u ≡ true
      → after_step (leave_of u (node_at s u)).said (first (room_tests (length s.messages) (leave_of u (node_at s u)).posts)) ≡ first (leave_call_rules s u)
  unfolding leave_of
  leave-says u known =
      let (o, says) = leaving-says u (node_at s u) in
      rw (sound, known)
      (after-own (leave_rules u (node_at s u)) ((28 when is_full s && not (alone u (node_at s u))) ∷ []) (node_at s u) (leaving u (node_at s u)) o _ says
      (λ clear. ⊎_elim (by_itself clear) (by-request clear) (decided (alone u (node_at s u)))))
    where
      by_itself : first (leave_rules u (node_at s u)) ≡ None → alone u (node_at s u) ≡ true
          → first (room_tests (length s.messages) (leave_of u (node_at s u)).posts) ≡ first ((28 when is_full s && not (alone u (node_at s u))) ∷ [])
      by_itself clear e =
          let room = le-leb (length s.messages + length (leave_of u (node_at s u)).posts) queue_limit (omega (arith, alone-posts u (node_at s u) clear e, w.few_messages)) in
          rw (room, e, and-false (is_full s))

      by-request : first (leave_rules u (node_at s u)) ≡ None → alone u (node_at s u) ≡ false
          → first (room_tests (length s.messages) (leave_of u (node_at s u)).posts) ≡ first ((28 when is_full s && not (alone u (node_at s u))) ∷ [])
      by-request clear e = rw (left-posts u (node_at s u) clear e, full-by-one (length s.messages), e, and-true)

  -- R6.10: 28 of a delivery, where a SetR is to be granted
  pub deliver-says : (place : ℕ) → place < length s.messages
      → first (room_tests (length s.messages - 1) (receiving s (message_at s place)).posts) ≡ first (deliver_rules s place)
  deliver-says place waits = ⊎_elim grantable other (decided (is_grantable s place))
    where
      m : Message
      m = message_at s place

      act : receiving s m ≡ act_of m.to (node_at s m.to) m.sender m.kind
      act = received s w m (taken s place waits).waits

      present : ltb place (length s.messages) ≡ true
      present = lt-ltb place (length s.messages) waits

      grantable : is_grantable s place ≡ true → first (room_tests (length s.messages - 1) (receiving s m).posts) ≡ first (deliver_rules s place)
      grantable g =
          let two : length (receiving s m).posts ≡ 2 = ap (λ (e : Effect). length e.posts) act ∙ granted-posts m.to (node_at s m.to) m.sender m.kind g in
          let all : length s.messages - 1 + length (receiving s m).posts ≡ suc (length s.messages) = omega arith in
          simp (all, sound, present, g, and-true)

      other : is_grantable s place ≡ false → first (room_tests (length s.messages - 1) (receiving s m).posts) ≡ first (deliver_rules s place)
      other f =
          let one : length (receiving s m).posts ≤ 1 = rw act (other-posts m.to (node_at s m.to) m.sender m.kind f) in
          let room = le-leb (length s.messages - 1 + length (receiving s m).posts) queue_limit (omega (arith, w.few_messages)) in
          simp (room, sound, present, f, and-false (is_full s))
