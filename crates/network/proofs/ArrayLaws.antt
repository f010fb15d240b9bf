-- The arrays and the lists of a network say the same: the lists that `held` puts into arrays come
-- out of them by `live`, and a well-formed network is what `held` makes of its own lists. Assumes
-- nothing.
use Rattle.std.specs.Prelude.{Some, None}
use mathlib.Core.Path.{◌≡◌, refl}
use mathlib.Core.Bool.{Bool, true, not, ◌&&◌}
use mathlib.Core.List.{List, [], ◌∷◌}
use Prim.Native.Nat.{ℕ, zero, suc, ◌-◌, ◌≤◌}
use native.Mathlib.Omega.{arith}
use lib.ListN.{length, take, drop, replicate, length-drop, take-append-drop}
use lib.Seq.{length-take-le, take-append_seam, drop-append_seam}
use lib.Dec.{leb, eqb}
use borrow.Author.Tests.{leb-true, le-leb, eqb-true}
use Rattle.predicates.specs.Tests.{every}
use Rattle.predicates.proofs.Laws.{both, impossible}
use Rattle.predicates.proofs.TestLaws.{holds, is_true}
use Rattle.sequence.specs.Sequence.{first_seq, same}
use Rattle.sequence.proofs.Laws.{same_iff}
use Rattle.parts.specs.declared.Kind.{Kind}
use Rattle.parts.specs.declared.Kind.TheVariants.{SetR, SetRAck, SetRNak, SetL}
use Rattle.parts.specs.declared.Message.{Message}
use Rattle.parts.specs.Tests.{Link, Seq, is_out, linked, numbered, is_nak}
use Rattle.node.specs.declared.Node.{Node}
use Rattle.node.specs.Shape.{capacity}
use Rattle.node.proofs.ActionLaws.{tested_out}
use Rattle.protocol.specs.State.{State, queue_limit, well_formed as lists_are_well_formed}
use Rattle.protocol.proofs.Facts.{well-formed as lists-well-formed}
use Rattle.network.specs.declared.Network.{Network}
use Rattle.network.specs.Arrays.{vacant_node, vacant_message, is_vacant_node, is_vacant_message, live, well_formed, filled, held}

-- ---- a list that is filled up with what is vacant
module _ {A : Type 0} (vacant : A) (test : A → Bool) where
  vacant-pass : (n : ℕ) → test vacant ≡ true → every test (replicate n vacant) ≡ true
  vacant-pass zero t = refl
  vacant-pass (suc n) t = rw t (vacant-pass n t)

  -- where only what is vacant passes, a list that passes is vacant
  all-vacant : ((x : A) → test x ≡ true → x ≡ vacant) → (l : List A) → every test l ≡ true → l ≡ replicate (length l) vacant
  all-vacant only [] h = refl
  all-vacant only (x ∷ l) h =
      let (first, rest) = both (test x) (every test l) h in
      λ i. only x first i ∷ all-vacant only l rest i

  -- what fills a list up is vacant
  past-vacant : (n : ℕ) (l : List A) → test vacant ≡ true → every test (drop (length l) (filled n vacant l)) ≡ true
  past-vacant n l t = rw drop-append_seam (vacant-pass (n - length l) t)

  -- an array whose places from k on are vacant is its first k elements, filled up
  refilled : ((x : A) → test x ≡ true → x ≡ vacant) → (l : List A) (n k : ℕ) → length l ≡ n → k ≤ n → every test (drop k l) ≡ true → filled n vacant (take k l) ≡ l
  refilled only l n k full few h =
      let front : length (take k l) ≡ k = length-take-le k l (omega arith) in
      let rest : n - k ≡ length (drop k l) = rw length-drop (omega arith) in
      rw (front, rest, ← all-vacant only (drop k l) h) (take-append-drop k l)

-- ---- the tests of every field pass what is vacant, and nothing else
no-link : (link : Link) → not (linked link) ≡ true → link ≡ None
no-link None t = refl
no-link (Some n) t = impossible t

no_number : (number : Seq) → not (numbered number) ≡ true → number ≡ None
no_number None t = refl
no_number (Some n) t = impossible t

nak_kind : (kind : Kind) → is_nak kind ≡ true → kind ≡ SetRNak
nak_kind (SetR new expected number) t = impossible t
nak_kind (SetRAck number) t = impossible t
nak_kind SetRNak t = refl
nak_kind (SetL left number) t = impossible t

pub vacant-node : (u : Node) → is_vacant_node u ≡ true → u ≡ vacant_node
vacant-node u h =
    let (status, a) = both (is_out u.status) _ h in
    let (key, b) = both (eqb u.key 0) _ a in
    let (links, c) = both (not (linked u.left) && not (linked u.right)) _ b in
    let (left, right) = both (not (linked u.left)) _ links in
    let (lseq, rseq) = both (same u.lseq first_seq) _ c in
    λ i. record {
      status = tested_out u.status status i;
      key = eqb-true u.key 0 key i;
      left = no-link u.left left i;
      right = no-link u.right right i;
      lseq = (same_iff u.lseq first_seq).0 (holds lseq) i;
      rseq = no_number u.rseq rseq i;
    }

pub vacant-message : (m : Message) → is_vacant_message m ≡ true → m ≡ vacant_message
vacant-message m h =
    let (sender, a) = both (eqb m.sender 0) _ h in
    let (to, kind) = both (eqb m.to 0) _ a in
    λ i. record { sender = eqb-true m.sender 0 sender i; to = eqb-true m.to 0 to i; kind = nak_kind m.kind kind i }

pub node_is_vacant : is_vacant_node vacant_node ≡ true
node_is_vacant = rw (is_true (same first_seq first_seq) ((same_iff first_seq first_seq).1 refl))

-- ---- lists put into arrays come out again
pub live-held : (s : State) → live (held s) ≡ s
live-held s = simp take-append_seam

pub held_well_formed : (s : State) → lists_are_well_formed s ≡ true → well_formed (held s) ≡ true
unfolding well_formed
held_well_formed s h =
    let w = lists-well-formed s h in
    let few = le-leb (length s.nodes) capacity w.few_nodes in
    let little = le-leb (length s.messages) queue_limit w.few_messages in
    let nodes = past-vacant vacant_node is_vacant_node capacity s.nodes node_is_vacant in
    let messages = past-vacant vacant_message is_vacant_message queue_limit s.messages refl in
    let lists : lists_are_well_formed (live (held s)) ≡ true = rw (live-held s) h in
    simp (few, little, nodes, messages, lists)

-- ---- and a well-formed network is what holds its lists
-- the facts that the test says
pub record WellFormed (n : Network) : Type 0 where
  pub few_nodes : n.count ≤ capacity
  pub few_messages : n.waiting ≤ queue_limit
  pub vacant_nodes : every is_vacant_node (drop n.count n.nodes) ≡ true
  pub vacant_messages : every is_vacant_message (drop n.waiting n.messages) ≡ true
  pub lists : lists_are_well_formed (live n) ≡ true

pub well-formed : (n : Network) → well_formed n ≡ true → WellFormed n
unfolding well_formed
well-formed n h =
    let (limits, a) = both (leb n.count capacity && leb n.waiting queue_limit) _ h in
    let (few, little) = both (leb n.count capacity) _ limits in
    let (vacant, lists) = both (every is_vacant_node (drop n.count n.nodes) && every is_vacant_message (drop n.waiting n.messages)) _ a in
    let (nodes, messages) = both (every is_vacant_node (drop n.count n.nodes)) _ vacant in
    record { few_nodes = leb-true _ _ few; few_messages = leb-true _ _ little; vacant_nodes = nodes; vacant_messages = messages; lists = lists }

pub held-live : (n : Network) → length n.nodes ≡ capacity → length n.messages ≡ queue_limit → well_formed n ≡ true → held (live n) ≡ n
held-live n nodes messages h =
    let w = well-formed n h in
    λ i. record {
      nodes = refilled vacant_node is_vacant_node vacant-node n.nodes capacity n.count nodes w.few_nodes w.vacant_nodes i;
      count = length-take-le n.count n.nodes (omega arith) i;
      messages = refilled vacant_message is_vacant_message vacant-message n.messages queue_limit n.waiting messages w.few_messages w.vacant_messages i;
      waiting = length-take-le n.waiting n.messages (omega arith) i;
    }
