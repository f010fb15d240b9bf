-- What the functions write into the arrays, as the lists have it: a node in its place, one node
-- more, a message taken out, messages at the end. Each is said of arrays that hold given lists, and
-- comes to arrays that hold the lists so changed. Assumes nothing.
use mathlib.Core.Path.{◌≡◌, sym, ap, ◌∙◌}
use mathlib.Core.List.{List, [], ◌∷◌, ◌++◌, append_assoc, append-nil}
use Prim.Native.Nat.{ℕ, suc, ◌+◌, ◌-◌, ◌≤◌, ◌<◌}
use native.Mathlib.Omega.{arith}
use lib.ListN.{length, set, replicate, length-append, length-set}
use lib.Seq.{set-append_left, set-append_seam, take-append_seam, drop-append_seam}
use Rattle.node.specs.declared.Node.{Node}
use Rattle.parts.specs.declared.Message.{Message}
use Rattle.node.specs.Shape.{capacity}
use Rattle.protocol.specs.State.{State, queue_limit}
use Rattle.protocol.specs.Calls.{without}
use Rattle.network.specs.Arrays.{vacant_node, vacant_message, filled, held}
use Rattle.access.specs.Changes.{placed, added, closed, queued, all_posted}
use Rattle.access.proofs.Shift.{length_without}

-- ---- a list that is filled up with what is vacant
module _ {A : Type 0} (n : ℕ) (vacant : A) where
  vacant-from : (k : ℕ) → k < n → replicate (n - k) vacant ≡ vacant ∷ replicate (n - suc k) vacant
  vacant-from k l = let e : n - k ≡ suc (n - suc k) = omega arith in rw e

  filled-set : (l : List A) (i : ℕ) (a : A) → i < length l → set (filled n vacant l) i a ≡ filled n vacant (set l i a)
  filled-set l i a k = rw (set-append_left l _ i a k, length-set)

  filled_more : (l : List A) (a : A) → length l < n → set (filled n vacant l) (length l) a ≡ filled n vacant (l ++ (a ∷ []))
  filled_more l a k =
      let one_more : n - length (l ++ (a ∷ [])) ≡ n - suc (length l) = simp length-append (omega arith) in
      rw (vacant-from (length l) k, set-append_seam, one_more, append_assoc)

  -- one element less, and a vacant one more
  filled-less : (l m : List A) → length l ≡ suc (length m) → length l ≤ n → m ++ vacant ∷ replicate (n - length l) vacant ≡ filled n vacant m
  filled-less l m e k =
      let one_less : n - length m ≡ suc (n - length l) = omega arith in
      rw one_less

-- ---- the changes
module _ (s : State) where
  placed-held : (u : ℕ) (node : Node) → u < length s.nodes → placed (held s) u node ≡ held (record { nodes = set s.nodes u node; messages = s.messages })
  placed-held u node k = λ i. record {
    nodes = filled-set capacity vacant_node s.nodes u node k i;
    count = sym (length-set s.nodes u node) i;
    messages = filled queue_limit vacant_message s.messages;
    waiting = length s.messages;
  }

  pub added-held : (node : Node) → length s.nodes < capacity → added (held s) node ≡ held (record { nodes = s.nodes ++ (node ∷ []); messages = s.messages })
  added-held node k = λ i. record {
    nodes = filled_more capacity vacant_node s.nodes node k i;
    count = sym (length-append s.nodes (node ∷ [])) i;
    messages = filled queue_limit vacant_message s.messages;
    waiting = length s.messages;
  }

  pub closed-held : (place : ℕ) → place < length s.messages → length s.messages ≤ queue_limit
      → closed (held s) place ≡ held (record { nodes = s.nodes; messages = without place s.messages })
  closed-held place k few =
      let one_less : length s.messages - 1 ≡ length (without place s.messages) = omega (arith, length_without place s.messages k) in
      let shifted : (closed (held s) place).messages ≡ filled queue_limit vacant_message (without place s.messages) =
      rw (take-append_seam, drop-append_seam) (filled-less queue_limit vacant_message s.messages (without place s.messages) (length_without place s.messages k) few) in
      λ i. record { nodes = filled capacity vacant_node s.nodes; count = length s.nodes; messages = shifted i; waiting = one_less i }

queued-filled : (ms posts : List Message) → length ms + length posts ≤ queue_limit
    → queued (filled queue_limit vacant_message ms) (length ms) posts ≡ filled queue_limit vacant_message (ms ++ posts)
queued-filled ms [] k = rw append-nil
queued-filled ms (m ∷ posts) k =
    ap (λ l. queued l (length ms + 1) posts) (filled_more queue_limit vacant_message ms m (omega arith))
    ∙ ap (λ n. queued (filled queue_limit vacant_message (ms ++ (m ∷ []))) n posts) (sym (length-append ms (m ∷ [])))
    ∙ queued-filled (ms ++ (m ∷ [])) posts (rw length-append (omega arith))
    ∙ ap (filled queue_limit vacant_message) (append_assoc ms (m ∷ []) posts)

all-posted-held : (nodes : List Node) (ms posts : List Message) → length ms + length posts ≤ queue_limit
    → all_posted (held (record { nodes = nodes; messages = ms })) posts ≡ held (record { nodes = nodes; messages = ms ++ posts })
all-posted-held nodes ms posts k = λ i. record {
  nodes = filled capacity vacant_node nodes;
  count = length nodes;
  messages = queued-filled ms posts k i;
  waiting = sym (length-append ms posts) i;
}

-- ---- a step: the node in its place, and its posts at the end
pub stepped-held : (nodes : List Node) (rest : List Message) (u : ℕ) (node : Node) (posts : List Message) → u < length nodes → length rest + length posts ≤ queue_limit
    → all_posted (placed (held (record { nodes = nodes; messages = rest })) u node) posts ≡ held (record { nodes = set nodes u node; messages = rest ++ posts })
stepped-held nodes rest u node posts k room =
    ap (λ n. all_posted n posts) (placed-held (record { nodes = nodes; messages = rest }) u node k) ∙ all-posted-held (set nodes u node) rest posts room
