-- Every call on every network is one of the cases of `Change`. Where a rule refuses, it is the
-- refusal; else no rule's condition holds, and the cleared rules and the network's well-formedness
-- give the facts of the case, and the node's step its result. Assumes nothing.
use mathlib.Core.Path.{◌≡◌, refl, ap}
use mathlib.Core.Logic.{⊎_elim, ◌≢◌}
use mathlib.Core.Bool.{true, false, not, ◌&&◌}
use mathlib.Core.List.{List, append-nil}
use Rattle.std.specs.Prelude.{Option, None, Some}
use Prim.Native.Nat.{ℕ, ◌<◌}
use native.Mathlib.Omega.{arith}
use native.Mathlib.Decide.{ℕ_discrete}
use lib.ListN.{length}
use lib.Dec.{ltb, eqb}
use borrow.Author.Tests.{ltb-true, lt-ltb, eqb-false, eq-eqb, not-true, not-false}
use Rattle.predicates.proofs.Laws.{or_right, left-fails, by_test}
use Rattle.predicates.proofs.TestLaws.{◌∈◌, decided, holds, not-both, count-in, below_at}
use Rattle.refusal.specs.Code.{Reason}
use Rattle.refusal.specs.Rules.{first, unless_refused}
use Rattle.refusal.proofs.Laws.{Cleared, cleared}
use Rattle.serial.specs.Serial.{in_range}
use Rattle.interval.specs.Interval.{between}
use Rattle.interval.proofs.Laws.{Between, between_iff}
use Rattle.sequence.specs.Sequence.{Number, newer}
use Rattle.parts.specs.declared.Status.{Status}
use Rattle.parts.specs.declared.Status.TheVariants.{Out, Ins, In, Del}
use Rattle.parts.specs.declared.Kind.{Kind}
use Rattle.parts.specs.declared.Kind.TheVariants.{SetR, SetRAck, SetRNak, SetL}
use Rattle.parts.specs.declared.Message.{Message}
use Rattle.parts.specs.Tests.{is_out, is_in_or_del, target, seq_of, is_request, is_answer}
use Rattle.node.specs.Shape.{capacity}
use Rattle.node.specs.Actions.{Effect, alone, leave_rules as leave_step_rules, grants, on_set_r, on_set_r_ack, on_set_r_nak, on_set_l, on_kind, while_out, act_of, would_grant}
use Rattle.node.proofs.ActionLaws.{tested_out, tested_in, tested-link, granted, create-accepted, join-accepted, leave-alone-accepted, leave-accepted, receive-accepted, join-granted, leave-granted}
use Rattle.node.proofs.FitLaws.{NodeFits, message-facts, left-named, right-named, number-named, deliverable-among}
use Rattle.protocol.specs.declared.Call.{Call}
use Rattle.protocol.specs.declared.Order.TheVariants.{Declare, Create, Join, Leave}
use Rattle.protocol.specs.declared.Call.TheVariants.{Order, Deliver}
use Rattle.protocol.specs.State.{State, queue_limit, declared, node_at, status_at, key_at, left_at, right_at, is_exchange_of, exchanges, well_formed}
use Rattle.protocol.specs.Calls.{refused, commit, is_full, is_grantable, declare_rules, declaring, create_rules, creating, peer_at, join_rules, joining, leave_rules, leaving, message_at, without, deliver_rules, receiving, delivering, rules_of, effect_of, apply_of}
use Rattle.protocol.proofs.Waiting.{taken}
use Rattle.protocol.proofs.Facts.{WellFormed, well-formed, tested, node-sound, join-sound}
use Rattle.protocol.proofs.Changes.{Delivers, Grants, Act, drops, lets_in, lets_go, denies, joins, goes, stays_out, stays_in, takes, ignores, Accepted, declares, creates, asks, goes_alone, leaves, delivers, Change, refuses, accepts}

-- ---- what the tests say
pub tested-below : (n m : ℕ) → not (ltb n m) ≡ false → n < m
tested-below n m e = ltb-true n m (not-false (ltb n m) e)

tested-between : (a b u : ℕ) → not (between a b u) ≡ false → Between a b u
tested-between a b u e = (between_iff a b u).0 (holds (not-false (between a b u) e))

-- ---- the calls
declare_case : (s : State) (key : ℕ) → first (declare_rules s key) ≡ None → Accepted s (Order (Declare key)) (declaring s key)
declare_case s key clear =
    let (_, (fits, (room, (new, _)))) = cleared (declare_rules s key) clear in
    let differs = below_at (length s.nodes) (λ v. not (eqb (key_at s v) key)) (not-false _ new) in
    declares key refl record {
      in_range = not-false (in_range key) fits;
      room = tested-below (length s.nodes) capacity room;
      is_new = λ v h. eqb-false (key_at s v) key (not-true _ (differs v h));
    } refl

create_case : (s : State) (u : ℕ) → first (create_rules s u) ≡ None → Accepted s (Order (Create u)) (creating s u)
create_case s u clear =
    let (ok, (known, (out, (no_notice, _)))) = cleared (create_rules s u) clear in
    let w = well-formed s (not-false (well_formed s) ok) in
    let declared : u < length s.nodes = tested-below u _ known in
    let all-out = below_at (length s.nodes) (λ v. is_out (status_at s v)) (not-false _ out) in
    let sound = node-sound w u declared in
    creates u refl record {
      declared = declared;
      all_out = λ v h. tested_out (status_at s v) (all-out v h);
      no_notice = no_notice;
    } (rw (create-accepted u (node_at s u) (ap not sound, (ap not (all-out u declared), tt)), append-nil))

join_case : (s : State) (u p q : ℕ) → first (join_rules s u p q) ≡ None → Accepted s (Order (Join u p q)) (joining s u p q)
join_case s u p q clear =
    -- each fact is found by what it says, wherever its rule stands in the list
    let passed = cleared (join_rules s u p q) clear in
    let ok : not (well_formed s) ≡ false = search passed in
    let known : not (declared s u) ≡ false = search passed in
    let left : not (declared s p) ≡ false = search passed in
    let right : not (declared s q) ≡ false = search passed in
    let out : not (is_out (status_at s u)) ≡ false = search passed in
    let lies : not (between (key_at s p) (key_at s q) (key_at s u)) ≡ false = search passed in
    let room : is_full s ≡ false = search passed in
    let node-declared : u < length s.nodes = tested-below u _ known in
    let left-declared : p < length s.nodes = tested-below p _ left in
    let right-declared : q < length s.nodes = tested-below q _ right in
    let sound = join-sound (well-formed s (not-false (well_formed s) ok)) u p q node-declared left-declared right-declared in
    asks u p q refl record {
      declared = node-declared;
      left_declared = left-declared;
      right_declared = right-declared;
      is_out = tested_out (status_at s u) (not-false _ out);
      between = tested-between (key_at s p) (key_at s q) (key_at s u) lies;
      no_notice = search passed;
      room = tested-below (length s.messages) queue_limit room;
    } (rw (join-accepted u (node_at s u) (peer_at s p) (peer_at s q) (sound, (out, (lies, tt)))))

leave_case : (s : State) (u : ℕ) → first (leave_rules s u) ≡ None → Accepted s (Order (Leave u)) (leaving s u)
leave_case s u clear =
    let (ok, (known, (sound, (inside, (unspent, (room, _)))))) = cleared (leave_rules s u) clear in
    let declared : u < length s.nodes = tested-below u _ known in
    let fits = (well-formed s (not-false (well_formed s) ok)).node u declared in
    let is-in : status_at s u ≡ In = tested_in (status_at s u) (not-false _ inside) in
    let right = right-named fits (ap is_out is-in) in
    let own : Cleared (leave_step_rules u (node_at s u)) = (sound, (inside, (unspent, tt))) in
    ⊎_elim
    (λ t. goes_alone u refl record { declared = declared; is_in = is-in; alone = tested-link (right_at s u) u t }
    (rw (leave-alone-accepted u (node_at s u) own t, append-nil)))
    (λ f. leaves u (target (left_at s u)) (target (right_at s u)) (seq_of (node_at s u).rseq) refl record {
      declared = declared;
      is_in = is-in;
      left = left-named fits (ap is_out is-in);
      right = right;
      not_alone = eqb-false (target (right_at s u)) u (rw right at f);
      number = number-named fits (ap is_in_or_del is-in);
      unspent = not-false _ (rw f at unspent);
      room = tested-below (length s.messages) queue_limit (left-fails (is_full s) _ room (ap not f));
    } (rw (leave-accepted u (node_at s u) own f)))
    (decided (alone u (node_at s u)))

-- ---- deliver: what node p does with v's message, the rest still waiting
module _ (s : State) (v p : ℕ) (rest : List Message) where
  -- of a message of this kind, e is the effect in one of the cases
  abbrev ActsBy : Kind → Effect → Type 0
  ActsBy kind e = Act s (record { sender = v; to = p; kind = kind }) rest (commit s p rest e)

  -- a node that is out, which no answer is for
  out-case : (kind : Kind) → status_at s p ≡ Out → (is_answer kind ≡ true → exchanges (status_at s p) ≢ 0) → ActsBy kind (while_out p (node_at s p) v kind)
  out-case (SetR new e n) out waits = denies v p new e n refl refl
  out-case (SetRAck n) out waits = absurd (waits refl (ap exchanges out))
  out-case SetRNak out waits = absurd (waits refl (ap exchanges out))
  out-case (SetL left n) out waits = drops v p left n refl out (rw append-nil)

  module _ {count : ℕ} (fits : NodeFits count (node_at s p)) (not_out : status_at s p ≢ Out) where
    request-case : (new e : ℕ) (n : Number) → (grants (node_at s p) v new e ≡ true → length s.messages < queue_limit) → ActsBy (SetR new e n) (on_set_r p (node_at s p) v new e n)
    request-case new e n room = ⊎_elim grant (λ f. denies v p new e n refl (rw f)) (decided (grants (node_at s p) v new e))
      where
        facts : grants (node_at s p) v new e ≡ true → Grants s p e (seq_of (node_at s p).rseq)
        facts g =
            let shown = granted (node_at s p) v new e g in
            let is-in : status_at s p ≡ In = tested_in (status_at s p) shown.is_in in
            record { is_in = is-in; right = tested-link (right_at s p) e shown.right; number = number-named fits (ap is_in_or_del is-in); room = room g }

        grant : grants (node_at s p) v new e ≡ true → ActsBy (SetR new e n) (on_set_r p (node_at s p) v new e n)
        grant g = go (ℕ_discrete new v)
          where
            go : Dec (new ≡ v) → ActsBy (SetR new e n) (on_set_r p (node_at s p) v new e n)
            go (yes d) = lets_in v p e n _ (rw d) (facts g) ((granted (node_at s p) v new e g).room (eq-eqb new v d)) (rw (join-granted (node_at s p) p v new e n g d))
            go (no d) = lets_go v p new e n _ refl d (facts g) (rw (leave-granted (node_at s p) p v new e n g d))

    ack-case : (n : ℕ) (t : Status) → status_at s p ≡ t → exchanges t ≢ 0 → ActsBy (SetRAck n) (on_set_r_ack t (node_at s p) n)
    ack-case n Out e waits = absurd (waits refl)
    ack-case n Ins e waits = joins v p n refl e (rw append-nil)
    ack-case n In e waits = absurd (waits refl)
    ack-case n Del e waits = goes v p n refl e (rw append-nil)

    nak-case : (t : Status) → status_at s p ≡ t → exchanges t ≢ 0 → ActsBy SetRNak (on_set_r_nak t (node_at s p))
    nak-case Out e waits = absurd (waits refl)
    nak-case Ins e waits = stays_out v p refl e (rw append-nil)
    nak-case In e waits = absurd (waits refl)
    nak-case Del e waits = stays_in v p refl e (rw append-nil)

    notice-case : (left : ℕ) (n : Number) → ActsBy (SetL left n) (on_set_l (node_at s p) left n)
    notice-case left n =
        by_test (ActsBy (SetL left n)) (newer n (node_at s p).lseq) _ _
        (λ t. takes v p left n refl not_out t (rw append-nil))
        (λ f. ignores v p left n refl not_out f (rw append-nil))

    kind-case : (kind : Kind) → (would_grant (node_at s p) v kind ≡ true → length s.messages < queue_limit) → (is_answer kind ≡ true → exchanges (status_at s p) ≢ 0)
        → ActsBy kind (on_kind p (node_at s p) v kind)
    kind-case (SetR new e n) room waits = request-case new e n room
    kind-case (SetRAck n) room waits = ack-case n (status_at s p) refl (waits refl)
    kind-case SetRNak room waits = nak-case (status_at s p) refl (waits refl)
    kind-case (SetL left n) room waits = notice-case left n

module _ (s : State) (w : WellFormed s) (m : Message) (waits : m ∈ s.messages) where
  pub declared-addressee : m.to < length s.nodes
  declared-addressee = ltb-true m.to (length s.nodes) (message-facts (length s.nodes) m (w.message m waits)).to

  -- an answer is its addressee's one exchange, and a node that is out or in has none
  answer-awaited : is_answer m.kind ≡ true → exchanges (status_at s m.to) ≢ 0
  answer-awaited answer none =
      let own : is_exchange_of m.to m ≡ true = or_right (is_request m.kind && eqb m.sender m.to) _ (rw answer (eq-eqb m.to m.to refl)) in
      omega (arith, count-in (is_exchange_of m.to) waits own, w.exchange m.to declared-addressee)

  -- the addressee's own rules do not refuse it
  pub received : receiving s m ≡ act_of m.to (node_at s m.to) m.sender m.kind
  received =
      let sound = node-sound w m.to declared-addressee in
      let deliverable = deliverable-among w.few_nodes m (w.message m waits) in
      receive-accepted m.to (node_at s m.to) m (rw (sound, deliverable), tt)

  receive-case : (rest : List Message) → (would_grant (node_at s m.to) m.sender m.kind ≡ true → length s.messages < queue_limit)
      → Act s m rest (commit s m.to rest (receiving s m))
  receive-case rest room =
      let fits = w.node m.to declared-addressee in
      rw received
      (by_test (ActsBy s m.sender m.to rest m.kind) (is_out (status_at s m.to)) _ _
      (λ t. out-case s m.sender m.to rest m.kind (tested_out (status_at s m.to) t) answer-awaited)
      (λ f. kind-case s m.sender m.to rest fits (λ o. not-both (ap is_out o) f) m.kind room answer-awaited))

-- a message that waits, where it is not a request that a full queue bars
pub waiting_case : (s : State) (w : WellFormed s) (place : ℕ) → place < length s.messages → (is_full s && is_grantable s place) ≡ false
    → Delivers s place (message_at s place) (without place s.messages) × Act s (message_at s place) (without place s.messages) (delivering s place)
waiting_case s w place present room =
    let out = taken s place present in (
      record { at = refl; taken = out; declared = declared-addressee s w (message_at s place) out.waits },
      receive-case s w (message_at s place) out.waits (without place s.messages) (λ g. tested-below (length s.messages) queue_limit (left-fails (is_full s) _ room g)),
    )

deliver_case : (s : State) (place : ℕ) → first (deliver_rules s place) ≡ None → Accepted s (Deliver place) (delivering s place)
deliver_case s place clear =
    let (ok, (room, (absent, _))) = cleared (deliver_rules s place) clear in
    let present : ltb place (length s.messages) ≡ true = not-false _ absent in
    let (d, act) = waiting_case s (well-formed s (not-false (well_formed s) ok)) place (ltb-true place _ present) (rw present at room) in
    delivers place (message_at s place) (without place s.messages) refl d act

-- so on a well-formed network a delivery is refused by 28 and 29 alone
pub delivery : {s : State} {place : ℕ} → WellFormed s → place < length s.messages → (is_full s && is_grantable s place) ≡ false
    → Act s (message_at s place) (without place s.messages) (apply_of s (Deliver place))
unfolding apply_of
delivery {s} {place} w present room =
    let clear : first (deliver_rules s place) ≡ None = rw (tested s w, lt-ltb place (length s.messages) present, room) in
    rw clear (waiting_case s w place present room).1

-- ---- any call
pub accepted_case : (s : State) (call : Call) → first (rules_of s call) ≡ None → Accepted s call (effect_of s call)
accepted_case s (Order (Declare key)) clear = declare_case s key clear
accepted_case s (Order (Create u)) clear = create_case s u clear
accepted_case s (Order (Join u p q)) clear = join_case s u p q clear
accepted_case s (Order (Leave u)) clear = leave_case s u clear
accepted_case s (Deliver place) clear = deliver_case s place clear

pub change : (s : State) (call : Call) → Change s call (apply_of s call)
unfolding apply_of
change s call = go (first (rules_of s call)) (accepted_case s call)
  where
    go : (o : Option Reason) → (o ≡ None → Accepted s call (effect_of s call)) → Change s call (unless_refused o (refused s) (effect_of s call))
    go None accepted = accepts (accepted refl)
    go (Some n) accepted = refuses n refl
