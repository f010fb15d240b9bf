-- Well-formedness as facts that proofs can use, that these facts say what the test says, and that
-- what such a network hands to a node's step passes the step's own test of shape. Assumes nothing.
use mathlib.Core.Path.{◌≡◌, ap}
use mathlib.Core.Logic.{◌≢◌}
use mathlib.Core.Bool.{true, false, not, ◌&&◌}
use Prim.Native.Nat.{ℕ, ◌≤◌, ◌<◌}
use lib.ListN.{length}
use lib.Dec.{leb, eqb}
use borrow.Author.Tests.{leb-true, le-leb, not-true, eqb-false, ne_eqb}
use Rattle.predicates.specs.Tests.{count, every_below}
use Rattle.predicates.proofs.Laws.{both}
use Rattle.predicates.proofs.TestLaws.{◌∈◌, every_in, all_pass, below_at, below_all}
use Rattle.parts.specs.declared.Message.{Message}
use Rattle.parts.specs.Shape.{message_fits}
use Rattle.node.specs.Shape.{capacity, node_fits, well_formed as node_is_sound, peer_fits}
use Rattle.node.proofs.FitLaws.{NodeFits, node-facts, node-fits, well-formed-among, peer-among}
use Rattle.protocol.specs.State.{State, queue_limit, node_at, status_at, key_at, is_exchange_of, key_is_new, exchanges, node_is_well_formed, well_formed}
use Rattle.protocol.specs.Calls.{peer_at}

-- ---- the facts that the test says
pub record WellFormed (s : State) : Type 0 where
  pub few_nodes : length s.nodes ≤ capacity
  pub few_messages : length s.messages ≤ queue_limit
  pub node : (u : ℕ) → u < length s.nodes → NodeFits (length s.nodes) (node_at s u)
  pub keys : (u v : ℕ) → u < length s.nodes → v < u → key_at s v ≢ key_at s u
  pub exchange : (u : ℕ) → u < length s.nodes → count (is_exchange_of u) s.messages ≤ exchanges (status_at s u)
  pub message : (m : Message) → m ∈ s.messages → message_fits (length s.nodes) m ≡ true

pub well-formed : (s : State) → well_formed s ≡ true → WellFormed s
unfolding well_formed
well-formed s h =
    let (limits, a) = both (leb (length s.nodes) capacity && leb (length s.messages) queue_limit) _ h in
    let (few, little) = both (leb (length s.nodes) capacity) _ limits in
    let (nodes, messages) = both (every_below (length s.nodes) (node_is_well_formed s)) _ a in
    let at : (u : ℕ) → u < length s.nodes → node_is_well_formed s u ≡ true = below_at (length s.nodes) (node_is_well_formed s) nodes in
    let rest : (u : ℕ) → u < length s.nodes → (key_is_new s u ≡ true) × (leb (count (is_exchange_of u) s.messages) (exchanges (status_at s u)) ≡ true) =
    λ u k. both (key_is_new s u) _ (both (node_fits (length s.nodes) (node_at s u)) _ (at u k)).1 in
    record {
      few_nodes = leb-true _ _ few;
      few_messages = leb-true _ _ little;
      node = λ u k. node-facts (length s.nodes) (node_at s u) (both (node_fits (length s.nodes) (node_at s u)) _ (at u k)).0;
      keys = λ u v k j. eqb-false (key_at s v) (key_at s u) (not-true _ (below_at u (λ w. not (eqb (key_at s w) (key_at s u))) (rest u k).0 v j));
      exchange = λ u k. leb-true _ _ (rest u k).1;
      message = λ m i. every_in (message_fits (length s.nodes)) messages i;
    }

pub tested : (s : State) → WellFormed s → well_formed s ≡ true
unfolding well_formed
tested s w =
    let limits = le-leb (length s.nodes) capacity w.few_nodes in
    let little = le-leb (length s.messages) queue_limit w.few_messages in
    let nodes = below_all (length s.nodes) (node_is_well_formed s) at in
    let messages = all_pass (message_fits (length s.nodes)) s.messages w.message in
    simp (limits, little, nodes, messages)
  where
    at : (u : ℕ) → u < length s.nodes → node_is_well_formed s u ≡ true
    at u k =
        let fits = node-fits (length s.nodes) (node_at s u) (w.node u k) in
        let new : key_is_new s u ≡ true = below_all u _ (λ v j. ap not (ne_eqb _ _ (w.keys u v k j))) in
        let few = le-leb _ _ (w.exchange u k) in
        simp (fits, new, few)

-- ---- what is handed to a step
module _ {s : State} (w : WellFormed s) where
  pub node-sound : (u : ℕ) → u < length s.nodes → node_is_sound u (node_at s u) ≡ true
  node-sound u k = well-formed-among w.few_nodes u k (w.node u k)

  peer-sound : (p : ℕ) → p < length s.nodes → peer_fits (peer_at s p) ≡ true
  peer-sound p k = peer-among w.few_nodes (peer_at s p) k (w.node p k).key

  -- so that a join's step is not refused by its own 6
  pub join-sound : (u p q : ℕ) → u < length s.nodes → p < length s.nodes → q < length s.nodes
      → not (node_is_sound u (node_at s u) && (peer_fits (peer_at s p) && peer_fits (peer_at s q))) ≡ false
  join-sound u p q node left right = rw (node-sound u node, peer-sound p left, peer-sound q right)
