-- What leaves a network well formed and loses no request: one node is set anew, fits and keeps its
-- key, while the messages that then wait fit and each node has as many exchanges more or fewer as
-- its status asks for; or one node is declared, and has no exchanges, since no message concerns it.
-- Each is shown once here, for the calls in `Kept`. Assumes nothing.
use mathlib.Core.Path.{◌≡◌, refl, sym, ap, ◌∙◌}
use mathlib.Core.Logic.{⊎_elim, ◌≢◌}
use mathlib.Core.Bool.{true, false, and-false}
use mathlib.Core.List.Memᴰ.{append_cases as in-part}
use mathlib.Core.List.Memᴰ.{cases_cons as in-cons}
use mathlib.Core.List.Memᴰ.{head as here}
use mathlib.Core.List.Memᴰ.{not-nil as in-nil}
use mathlib.Core.List.Memᴰ.{tail as there}
use mathlib.Core.List.{List, [], ◌∷◌, ◌++◌}
use Prim.Native.Nat.{ℕ, suc, ◌+◌, ◌≤◌, ◌<◌}
use native.Mathlib.Omega.{arith}
use native.Mathlib.Decide.{ℕ_discrete}
use lib.ListN.{length, set, length-append, length-set}
use borrow.Author.Tests.{ltb-true, ne_eqb}
use Rattle.predicates.specs.Tests.{count}
use Rattle.predicates.proofs.TestLaws.{◌∈◌, bit-false}
use Rattle.parts.specs.declared.Message.{Message}
use Rattle.parts.specs.Shape.{message_fits}
use Rattle.node.specs.declared.Node.{Node}
use Rattle.node.specs.Shape.{declared_of}
use Rattle.node.proofs.FitLaws.{NodeFits, message-facts, PostsFit, fits_more, message-fits-more}
use Rattle.protocol.specs.State.{State, queue_limit, node_at, status_at, key_at, is_exchange_of, exchanges}
use Rattle.protocol.specs.Calls.{declaring}
use Rattle.protocol.proofs.Nodes.{At, unchanged, set_at, declared-at, past}
use Rattle.protocol.proofs.Fields.{key_of}
use Rattle.protocol.proofs.Facts.{WellFormed}
use Rattle.protocol.proofs.Changes.{Declares}

-- ---- messages that fit
abbrev pub AllFit : ℕ → List Message → Type 0
AllFit count ms = (m : Message) → m ∈ ms → message_fits count m ≡ true

posts-fit : (count : ℕ) (ms : List Message) → PostsFit count ms → AllFit count ms
posts-fit count [] h m i = absurd (in-nil i)
posts-fit count (x ∷ ms) h m i = ⊎_elim (λ e. rw e h.0) (λ j. posts-fit count ms h.1 m j) (in-cons i)

pub with_posts : (count : ℕ) (ms posts : List Message) → AllFit count ms → PostsFit count posts → AllFit count (ms ++ posts)
with_posts count ms posts f h m i = ⊎_elim (λ j. f m j) (λ j. posts-fit count posts h m j) (in-part ms i)

-- ---- one node is set anew, and these messages wait
pub record Moves (s : State) (i : ℕ) (x : Node) (ms : List Message) : Type 0 where
  pub declared : i < length s.nodes
  pub key : x.key ≡ key_at s i
  pub fits : NodeFits (length s.nodes) x
  pub few : length ms ≤ queue_limit
  pub messages : AllFit (length s.nodes) ms
  pub exchange : count (is_exchange_of i) ms + exchanges (status_at s i) ≡ count (is_exchange_of i) s.messages + exchanges x.status
  pub others : (u : ℕ) → u ≢ i → count (is_exchange_of u) ms ≡ count (is_exchange_of u) s.messages

-- ---- what is shown of a call
-- each node's exchanges come and go with what its status allows
abbrev pub Balanced : State → State → Type 0
Balanced s s' = (u : ℕ) → count (is_exchange_of u) s'.messages + exchanges (status_at s u) ≡ count (is_exchange_of u) s.messages + exchanges (status_at s' u)

pub record Preserves (s s' : State) : Type 0 where
  pub well_formed : WellFormed s'
  pub balanced : Balanced s s'

-- so where no node had more exchanges than its status allows, none has
no-more : (s s' : State) → Balanced s s' → (u : ℕ) → count (is_exchange_of u) s.messages ≤ exchanges (status_at s u) → count (is_exchange_of u) s'.messages ≤ exchanges (status_at s' u)
no-more s s' b u few = omega (arith, b u)

pub moved-kept : {s : State} {i : ℕ} {x : Node} {ms : List Message} → WellFormed s → Moves s i x ms → Preserves s (record { nodes = set s.nodes i x; messages = ms })
moved-kept {s} {i} {x} {ms} w h = record {
  well_formed = record {
    few_nodes = rw size w.few_nodes;
    few_messages = h.few;
    node = λ u k. rw size (node u (ℕ_discrete u i) (rw size at k));
    keys = λ u v k j e. w.keys u v (rw size at k) j (sym (key v) ∙ e ∙ key u);
    exchange = λ u k. no-more s after balanced u (w.exchange u (rw size at k));
    message = λ m j. rw size (h.messages m j);
  };
  balanced = balanced;
}
  where
    after : State
    after = record { nodes = set s.nodes i x; messages = ms }

    size : length (set s.nodes i x) ≡ length s.nodes
    size = length-set s.nodes i x

    at : At (node_at s) i x (node_at after)
    at = set_at s.nodes h.declared

    node : (u : ℕ) → Dec (u ≡ i) → u < length s.nodes → NodeFits (length s.nodes) (node_at after u)
    node u (yes e) k = rw (e, at.self) h.fits
    node u (no d) k = rw (at.others u d) (w.node u k)

    key : (u : ℕ) → key_at after u ≡ key_at s u
    key = unchanged at key_of h.key

    balanced : Balanced s after
    balanced u = go (ℕ_discrete u i)
      where
        go : Dec (u ≡ i) → count (is_exchange_of u) ms + exchanges (status_at s u) ≡ count (is_exchange_of u) s.messages + exchanges (status_at after u)
        go (yes e) = rw e (omega (arith, h.exchange, ap (λ (n : Node). exchanges n.status) at.self))
        go (no d) = omega (arith, h.others u d, ap (λ (n : Node). exchanges n.status) (at.others u d))

-- ---- a number that is not declared: no message concerns it
pub unconcerned : (n u : ℕ) → n ≤ u → (ms : List Message) → AllFit n ms → count (is_exchange_of u) ms ≡ 0
unconcerned n u le [] f = refl
unconcerned n u le (m ∷ ms) f =
    let facts = message-facts n m (f m (here refl)) in
    let from = ne_eqb m.sender u (λ e. omega (arith, ltb-true m.sender n facts.sender)) in
    let to = ne_eqb m.to u (λ e. omega (arith, ltb-true m.to n facts.to)) in
    let not-its : is_exchange_of u m ≡ false = simp (from, to, and-false) in
    omega (arith, bit-false not-its, unconcerned n u le ms (λ x i. f x (there i)))

-- ---- a node is declared
pub declare_kept : {s : State} {key : ℕ} → WellFormed s → Declares s key → Preserves s (record { nodes = s.nodes ++ (declared_of key ∷ []); messages = s.messages })
declare_kept {s} {key} w h = record {
  well_formed = record {
    few_nodes = rw size h.room;
    few_messages = w.few_messages;
    node = λ u k. rw size (node u (rw size at k) (ℕ_discrete u (length s.nodes)));
    keys = λ u v k j. keys u v (rw size at k) j (ℕ_discrete u (length s.nodes));
    exchange = λ u k. exchange u (rw size at k) (ℕ_discrete u (length s.nodes));
    message = λ m i. rw size (message-fits-more more m (w.message m i));
  };
  balanced = λ u. ap (λ k. count (is_exchange_of u) s.messages + k) (sym (status u (ℕ_discrete u (length s.nodes))));
}
  where
    after : State
    after = (declaring s key).state

    size : length (s.nodes ++ (declared_of key ∷ [])) ≡ suc (length s.nodes)
    size = omega (arith, length-append s.nodes (declared_of key ∷ []))

    more : length s.nodes ≤ suc (length s.nodes)
    more = omega arith

    new : node_at after (length s.nodes) ≡ declared_of key
    new = (declared-at s key).self

    old : (u : ℕ) → u < length s.nodes → node_at after u ≡ node_at s u
    old u k = (declared-at s key).others u (omega arith)

    node : (u : ℕ) → u < suc (length s.nodes) → Dec (u ≡ length s.nodes) → NodeFits (suc (length s.nodes)) (node_at after u)
    node u k (yes e) = rw (e, new) (record { key = h.in_range; left = refl; right = refl; links = refl; seq = refl })
    node u k (no d) = let j : u < length s.nodes = omega arith in rw (old u j) (fits_more more (w.node u j))

    keys : (u v : ℕ) → u < suc (length s.nodes) → v < u → Dec (u ≡ length s.nodes) → key_at after v ≢ key_at after u
    keys u v k j (yes e) =
        let below : v < length s.nodes = omega arith in
        let its : key_at after u ≡ key = rw e (ap key_of new) in
        λ same. h.is_new v below (sym (ap key_of (old v below)) ∙ same ∙ its)
    keys u v k j (no d) =
        let below : u < length s.nodes = omega arith in
        λ same. w.keys u v below j (sym (ap key_of (old v (omega arith))) ∙ same ∙ ap key_of (old u below))

    exchange : (u : ℕ) → u < suc (length s.nodes) → Dec (u ≡ length s.nodes) → count (is_exchange_of u) s.messages ≤ exchanges (status_at after u)
    exchange u k (yes e) = rw e (omega (arith, unconcerned (length s.nodes) (length s.nodes) (omega arith) s.messages w.message))
    exchange u k (no d) =
        let below : u < length s.nodes = omega arith in
        omega (arith, w.exchange u below, ap (λ (x : Node). exchanges x.status) (old u below))

    -- out before and after
    status : (u : ℕ) → Dec (u ≡ length s.nodes) → exchanges (status_at after u) ≡ exchanges (status_at s u)
    status u (yes e) = rw e (ap (λ (x : Node). exchanges x.status) new ∙ sym (ap (λ (x : Node). exchanges x.status) (past s (length s.nodes) (omega arith))))
    status u (no d) = ap (λ (x : Node). exchanges x.status) ((declared-at s key).others u d)
