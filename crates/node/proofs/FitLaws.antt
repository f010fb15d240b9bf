-- A step keeps things well formed: among any number of nodes, a node that fits is left as one that
-- fits, and what it posts fits. So no step of a well-formed node leads to a refusal 6 of the next,
-- and whoever holds many nodes has their part of it here. Assumes nothing.
use Rattle.std.specs.Prelude.{Some, None}
use mathlib.Core.Path.{◌≡◌, refl, ap}
use mathlib.Core.Bool.{Bool, true, false, not, ◌&&◌, ◌||◌, cond}
use mathlib.Core.List.{List, [], ◌∷◌}
use Rattle.std.specs.Prelude.{Option, None, Some}
use Prim.Native.Nat.{ℕ, ◌≤◌, ◌<◌}
use native.Mathlib.Omega.{arith}
use lib.Dec.{ltb, eqb}
use borrow.Author.Tests.{ltb-true, lt-ltb, eq-eqb, not-false}
use Rattle.predicates.proofs.Laws.{both, or_right, not_left, impossible}
use Rattle.refusal.specs.Code.{Reason}
use Rattle.refusal.specs.Rules.{first, unless_refused}
use Rattle.refusal.proofs.Laws.{cleared}
use Rattle.serial.specs.Serial.{in_range}
use Rattle.sequence.specs.Sequence.{next_seq, newer}
use Rattle.parts.specs.declared.Status.{Status}
use Rattle.parts.specs.declared.Status.TheVariants.{Out, Ins, In, Del}
use Rattle.parts.specs.declared.Kind.{Kind}
use Rattle.parts.specs.declared.Kind.TheVariants.{SetR, SetRAck, SetRNak, SetL}
use Rattle.parts.specs.declared.Message.{Message}
use Rattle.parts.specs.Shape.{link_fits, kind_fits, message_fits}
use Rattle.parts.specs.Tests.{Link, Seq, is_out, is_in, is_in_or_del, linked, numbered, target, seq_of, links_to}
use Rattle.node.specs.declared.Node.{Node}
use Rattle.node.specs.declared.Peer.{Peer}
use Rattle.node.specs.Shape.{node_fits, capacity, well_formed, deliverable, peer_fits}
use Rattle.node.specs.declared.Outcome.{Outcome}
use Rattle.node.specs.declared.Outcome.TheVariants.{Waiting, LeftOld, Dropped}
use Rattle.node.specs.Actions.{Effect, refused, quiet, posting, set_l, with_status, create_rules, created, creating, create_of, join_rules, joining, asking, join_of, alone, leave_rules, leave_request, leaving, leave_of, grants, notice, ack, relinked, granting, denied, on_set_r, confirmed, on_set_r_ack, on_set_r_nak, left_set, on_set_l, on_kind, while_out, act_of, receive_rules, receive_of}
use Rattle.node.proofs.ActionLaws.{Grant, granted}

-- ---- the facts that the test of a node says
pub record NodeFits (count : ℕ) (u : Node) : Type 0 where
  pub key : in_range u.key ≡ true
  pub left : link_fits count u.left ≡ true
  pub right : link_fits count u.right ≡ true
  pub links : (is_out u.status || (linked u.left && linked u.right)) ≡ true
  pub seq : (not (is_in_or_del u.status) || numbered u.rseq) ≡ true

pub node-facts : (count : ℕ) (u : Node) → node_fits count u ≡ true → NodeFits count u
unfolding node_fits
node-facts count u h =
    let (key, a) = both (in_range u.key) _ h in
    let (b, c) = both (link_fits count u.left && link_fits count u.right) _ a in
    let (left, right) = both (link_fits count u.left) _ b in
    let (links, seq) = both (is_out u.status || (linked u.left && linked u.right)) _ c in
    record { key = key; left = left; right = right; links = links; seq = seq }

pub node-fits : (count : ℕ) (u : Node) → NodeFits count u → node_fits count u ≡ true
unfolding node_fits
node-fits count u f = simp (f.key, f.left, f.right, f.links, f.seq)

-- ---- the facts that the test of a message says
pub record MessageFits (count : ℕ) (m : Message) : Type 0 where
  pub sender : ltb m.sender count ≡ true
  pub to : ltb m.to count ≡ true
  pub kind : kind_fits count m.kind ≡ true

pub message-facts : (count : ℕ) (m : Message) → message_fits count m ≡ true → MessageFits count m
unfolding message_fits
message-facts count m h =
    let (sender, a) = both (ltb m.sender count) _ h in
    let (to, kind) = both (ltb m.to count) _ a in
    record { sender = sender; to = to; kind = kind }

pub message-fits : (count : ℕ) (m : Message) → ltb m.sender count ≡ true → ltb m.to count ≡ true → kind_fits count m.kind ≡ true → message_fits count m ≡ true
unfolding message_fits
message-fits count m s t k = simp (s, t, k)

-- ---- an effect fits: the node left behind, and each message posted
abbrev pub PostsFit : ℕ → List Message → Type 0
PostsFit count [] = Unit {0}
PostsFit count (m ∷ ms) = (message_fits count m ≡ true) × PostsFit count ms

pub record EffectFits (count : ℕ) (e : Effect) : Type 0 where
  pub node : NodeFits count e.node
  pub posts : PostsFit count e.posts

ruled-fits : {count : ℕ} {u : Node} → NodeFits count u → (o : Option Reason) (accepted : Effect) → (o ≡ None → EffectFits count accepted) → EffectFits count (unless_refused o (refused u) accepted)
ruled-fits f None accepted g = g refl
ruled-fits f (Some n) accepted g = record { node = f; posts = tt }

cond-fits : {count : ℕ} (b : Bool) (x y : Effect) → (b ≡ true → EffectFits count x) → (b ≡ false → EffectFits count y) → EffectFits count (cond b x y)
cond-fits true x y f g = f refl
cond-fits false x y f g = g refl

-- ---- small facts of statuses, links and messages
in_is_not_out : (s : Status) → is_in s ≡ true → (is_out s ≡ false) × (is_in_or_del s ≡ true)
in_is_not_out Out h = impossible h
in_is_not_out Ins h = impossible h
in_is_not_out In h = (refl, refl)
in_is_not_out Del h = impossible h

target_fits : (count : ℕ) (l : Link) → linked l ≡ true → link_fits count l ≡ true → ltb (target l) count ≡ true
target_fits count None h k = impossible h
target_fits count (Some n) h k = k

is-linked : (l : Link) (n : ℕ) → links_to l n ≡ true → linked l ≡ true
is-linked None n h = impossible h
is-linked (Some m) n h = refl

second_is_enough : (p q r : Bool) → (p || (q && r)) ≡ true → (p || (true && r)) ≡ true
second_is_enough true q r h = refl
second_is_enough false q r h = (both q r h).1

-- ---- the nodes that a step leaves behind
module _ {count : ℕ} {u : Node} (f : NodeFits count u) where
  -- a node that is not out has both links
  both-linked : is_out u.status ≡ false → (linked u.left ≡ true) × (linked u.right ≡ true)
  both-linked e = both (linked u.left) (linked u.right) (not_left (is_out u.status) _ e f.links)

  pub created-fits : (me : ℕ) → ltb me count ≡ true → NodeFits count (created me u)
  created-fits me h = record { key = f.key; left = h; right = h; links = refl; seq = refl }

  pub joining-fits : (p q : Peer) → ltb p.number count ≡ true → ltb q.number count ≡ true → NodeFits count (joining u p q)
  joining-fits p q hp hq = record { key = f.key; left = hp; right = hq; links = refl; seq = refl }

  pub out-fits : NodeFits count (with_status Out u)
  out-fits = record { key = f.key; left = f.left; right = f.right; links = refl; seq = refl }

  -- a status of a node that has its links and its right number
  pub status-fits : (s : Status) → is_out u.status ≡ false → numbered u.rseq ≡ true → NodeFits count (with_status s u)
  status-fits s e n =
      let (l, r) = both-linked e in
      record { key = f.key; left = f.left; right = f.right; links = or_right (is_out s) _ (rw l r); seq = or_right (not (is_in_or_del s)) _ n }

  pub confirmed-fits : (number : ℕ) → is_out u.status ≡ false → NodeFits count (confirmed u number)
  confirmed-fits number e =
      let (l, r) = both-linked e in
      record { key = f.key; left = f.left; right = f.right; links = rw l r; seq = refl }

  pub relinked-fits : (new number : ℕ) → ltb new count ≡ true → is_out u.status ≡ false → NodeFits count (relinked u new number)
  relinked-fits new number h e =
      let (l, r) = both-linked e in
      record { key = f.key; left = f.left; right = h; links = or_right (is_out u.status) _ (rw l refl); seq = or_right (not (is_in_or_del u.status)) true refl }

  pub left-set-fits : (left number : ℕ) → ltb left count ≡ true → NodeFits count (left_set u left number)
  left-set-fits left number h =
      record { key = f.key; left = h; right = f.right; links = second_is_enough (is_out u.status) (linked u.left) (linked u.right) f.links; seq = f.seq }

  quiet-fits : (o : Outcome) → EffectFits count (quiet u o)
  quiet-fits o = record { node = f; posts = tt }

-- ---- the steps
module _ (count me : ℕ) (me-in : ltb me count ≡ true) (u : Node) (f : NodeFits count u) where
  pub create-fits : EffectFits count (create_of me u)
  unfolding create_of
  create-fits = ruled-fits f (first (create_rules me u)) (creating me u) (λ clear. record {
    node = created-fits f me me-in;
    posts = tt;
  })

  pub join-fits : (p q : Peer) → ltb p.number count ≡ true → ltb q.number count ≡ true → EffectFits count (join_of me u p q)
  unfolding join_of
  join-fits p q hp hq = ruled-fits f (first (join_rules me u p q)) (asking me u p q) (λ clear. record {
    node = joining-fits f p q hp hq;
    posts = (message-fits count _ me-in hp (simp (me-in, hq)), tt);
  })

  pub leave_fits : EffectFits count (leave_of me u)
  unfolding leave_of
  leave_fits = ruled-fits f (first (leave_rules me u)) (leaving me u) (λ clear. cond-fits (alone me u) _ _ (λ _. record { node = out-fits f; posts = tt }) (λ _. by-request (is-in clear)))
    where
      is-in : first (leave_rules me u) ≡ None → is_in u.status ≡ true
      is-in clear = let (_, (inside, _)) = cleared (leave_rules me u) clear in not-false (is_in u.status) inside

      by-request : is_in u.status ≡ true → EffectFits count (posting (with_status Del u) (leave_request me u (next_seq (seq_of u.rseq))) Waiting)
      by-request h =
          let (not_out, has-seq) = in_is_not_out u.status h in
          let (l, r) = both-linked f not_out in
          let n = not_left (not (is_in_or_del u.status)) (numbered u.rseq) (ap not has-seq) f.seq in
          record {
            node = status-fits f Del not_out n;
            posts = (message-fits count _ me-in (target_fits count u.left l f.left) (simp (target_fits count u.right r f.right, me-in)), tt);
          }

  module _ (v : ℕ) (v-in : ltb v count ≡ true) where
    denied-fits : EffectFits count (denied me u v)
    denied-fits = record { node = f; posts = (message-fits count _ me-in v-in refl, tt) }

    set-r-fits : (new expected number : ℕ) → ltb new count ≡ true → EffectFits count (on_set_r me u v new expected number)
    set-r-fits new expected number h = cond-fits (grants u v new expected) _ _ (λ g. grant (granted u v new expected g)) (λ _. denied-fits)
      where
        notice-fits : linked u.right ≡ true → message_fits count (notice me u v new number) ≡ true
        notice-fits r = go (eqb new v)
          where
            go : (b : Bool) → message_fits count (cond b (set_l me (target u.right) v (next_seq (seq_of u.rseq))) (set_l me new me number)) ≡ true
            go true = message-fits count _ me-in (target_fits count u.right r f.right) v-in
            go false = message-fits count _ me-in h me-in

        grant : Grant u v new expected → EffectFits count (granting (relinked u new number) (notice me u v new number) (ack me u v))
        grant g = record {
          node = relinked-fits f new number h (in_is_not_out u.status g.is_in).0;
          posts = (notice-fits (is-linked u.right expected g.right), (message-fits count _ me-in v-in refl, tt));
        }

    set-r-ack-fits : (number : ℕ) (s : Status) → u.status ≡ s → EffectFits count (on_set_r_ack s u number)
    set-r-ack-fits number Out e = quiet-fits f Dropped
    set-r-ack-fits number Ins e = record { node = confirmed-fits f number (ap is_out e); posts = tt }
    set-r-ack-fits number In e = quiet-fits f Dropped
    set-r-ack-fits number Del e = record { node = out-fits f; posts = tt }

    set-r-nak-fits : (s : Status) → u.status ≡ s → EffectFits count (on_set_r_nak s u)
    set-r-nak-fits Out e = quiet-fits f Dropped
    set-r-nak-fits Ins e = record { node = out-fits f; posts = tt }
    set-r-nak-fits In e = quiet-fits f Dropped
    set-r-nak-fits Del e = record { node = status-fits f In (ap is_out e) (not_left (not (is_in_or_del u.status)) (numbered u.rseq) (ap (λ s. not (is_in_or_del s)) e) f.seq); posts = tt }

    set-l-fits : (left number : ℕ) → ltb left count ≡ true → EffectFits count (on_set_l u left number)
    set-l-fits left number h = cond-fits (newer number u.lseq) _ _ (λ _. record { node = left-set-fits f left number h; posts = tt }) (λ _. quiet-fits f LeftOld)

    kind_fits_lem : (kind : Kind) → kind_fits count kind ≡ true → EffectFits count (on_kind me u v kind)
    kind_fits_lem (SetR new expected number) k = set-r-fits new expected number (both (ltb new count) (ltb expected count) k).0
    kind_fits_lem (SetRAck number) k = set-r-ack-fits number u.status refl
    kind_fits_lem SetRNak k = set-r-nak-fits u.status refl
    kind_fits_lem (SetL left number) k = set-l-fits left number k

    while-out-fits : (kind : Kind) → EffectFits count (while_out me u v kind)
    while-out-fits (SetR new expected number) = denied-fits
    while-out-fits (SetRAck number) = quiet-fits f Dropped
    while-out-fits SetRNak = quiet-fits f Dropped
    while-out-fits (SetL left number) = quiet-fits f Dropped

  pub receive-fits : (m : Message) → message_fits count m ≡ true → EffectFits count (receive_of me u m)
  unfolding receive_of
  receive-fits m h =
      let facts = message-facts count m h in
      ruled-fits f (first (receive_rules me u m)) (act_of me u m.sender m.kind) (λ clear.
      cond-fits (is_out u.status) _ _ (λ _. while-out-fits m.sender facts.sender m.kind) (λ _. kind_fits_lem m.sender facts.sender m.kind facts.kind))

-- ---- what a node that fits has: its links unless it is out, its right number while it is in or
-- del
link-named : (l : Link) → linked l ≡ true → l ≡ Some (target l)
link-named None h = impossible h
link-named (Some n) h = refl

seq-named : (q : Seq) → numbered q ≡ true → q ≡ Some (seq_of q)
seq-named None h = impossible h
seq-named (Some n) h = refl

module _ {count : ℕ} {u : Node} (f : NodeFits count u) where
  pub left-named : is_out u.status ≡ false → u.left ≡ Some (target u.left)
  left-named e = link-named u.left (both-linked f e).0

  pub right-named : is_out u.status ≡ false → u.right ≡ Some (target u.right)
  right-named e = link-named u.right (both-linked f e).1

  pub number-named : is_in_or_del u.status ≡ true → u.rseq ≡ Some (seq_of u.rseq)
  number-named e = seq-named u.rseq (not_left (not (is_in_or_del u.status)) (numbered u.rseq) (ap not e) f.seq)

-- ---- what fits among some nodes fits among more
module _ {count more : ℕ} (le : count ≤ more) where
  number-fits-more : (n : ℕ) → ltb n count ≡ true → ltb n more ≡ true
  number-fits-more n h = let k = ltb-true n count h in lt-ltb n more (omega arith)

  link-fits-more : (l : Link) → link_fits count l ≡ true → link_fits more l ≡ true
  link-fits-more None h = refl
  link-fits-more (Some n) h = number-fits-more n h

  kind-fits-more : (kind : Kind) → kind_fits count kind ≡ true → kind_fits more kind ≡ true
  kind-fits-more (SetR new expected number) h =
      let (n, e) = both (ltb new count) (ltb expected count) h in
      simp (number-fits-more new n, number-fits-more expected e)
  kind-fits-more (SetRAck number) h = refl
  kind-fits-more SetRNak h = refl
  kind-fits-more (SetL left number) h = number-fits-more left h

  pub fits_more : {u : Node} → NodeFits count u → NodeFits more u
  fits_more {u} f = record { key = f.key; left = link-fits-more u.left f.left; right = link-fits-more u.right f.right; links = f.links; seq = f.seq }

  pub message-fits-more : (m : Message) → message_fits count m ≡ true → message_fits more m ≡ true
  message-fits-more m h =
      let facts = message-facts count m h in
      message-fits more m (number-fits-more m.sender facts.sender) (number-fits-more m.to facts.to) (kind-fits-more m.kind facts.kind)

-- ---- so among no more nodes than the limit a step gives no refusal 6
module _ {count : ℕ} (few : count ≤ capacity) where
  pub well-formed-among : (me : ℕ) {u : Node} → me < count → NodeFits count u → well_formed me u ≡ true
  unfolding well_formed
  well-formed-among me {u} h f = simp (lt-ltb me capacity (omega arith), node-fits capacity u (fits_more few f))

  pub deliverable-among : (m : Message) → message_fits count m ≡ true → deliverable m.to m ≡ true
  unfolding deliverable
  deliverable-among m h = simp (eq-eqb m.to m.to refl, message-fits-more few m h)

  pub peer-among : (p : Peer) → p.number < count → in_range p.key ≡ true → peer_fits p ≡ true
  unfolding peer_fits
  peer-among p h key = simp (lt-ltb p.number capacity (omega arith), key)
