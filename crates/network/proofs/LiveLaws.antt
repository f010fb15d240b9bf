-- What the arrays of a well-formed network hold in the places before the counts is what its lists
-- hold, node by node and message by message: no count is above the length of its array, so each
-- such place is one of both. Assumes nothing.
use Rattle.std.specs.Prelude.{Some}
use mathlib.Core.Path.{◌≡◌, sym, ap, ◌∙◌}
use mathlib.Core.Bool.{true}
use Prim.Native.Nat.{ℕ, ◌<◌}
use native.Mathlib.Nat.{mod-eq_of_lt}
use native.Mathlib.Omega.{arith}
use lib.ListN.{length, get_or}
use lib.Seq.{length-take-le, get_or-take}
use borrow.Author.Tests.{ltb-true}
use Rattle.node.specs.declared.Node.{Node}
use Rattle.protocol.specs.State.{node_at, right_at}
use Rattle.protocol.proofs.Facts.{WellFormed as ListsWellFormed, well-formed as lists-well-formed}
use Rattle.network.specs.declared.Network.{Network}
use Rattle.protocol.specs.Calls.{message_at}
use Rattle.network.specs.Arrays.{vacant_node, vacant_message, live, well_formed}
use Rattle.network.specs.Reads.{node_in, message_in}
use Rattle.network.proofs.Lengths.{Lengths}
use Rattle.network.proofs.ArrayLaws.{well-formed}
use Rattle.network.proofs.Places.{same-element}

-- ---- the lists of a well-formed network
module _ (n : Network) (l : Lengths n) (h : well_formed n ≡ true) where
  -- as long as the counts say
  pub nodes-length : length (live n).nodes ≡ n.count
  nodes-length = let w = well-formed n h in length-take-le n.count n.nodes (omega arith)

  pub messages-length : length (live n).messages ≡ n.waiting
  messages-length = let w = well-formed n h in length-take-le n.waiting n.messages (omega arith)

  -- the node of a number is the one in its place
  pub node-live : (u : ℕ) (d : Node) → u < n.count → node_at (live n) u ≡ get_or n.nodes u d
  node-live u d k =
      let w = well-formed n h in
      get_or-take n.count n.nodes u vacant_node k ∙ same-element n.nodes u vacant_node d (omega arith)

  -- and so is a message
  pub message-live : (i : ℕ) → i < n.waiting → message_in n i ≡ message_at (live n) i
  message-live i k =
      let w = well-formed n h in
      ap (λ j. get_or n.messages j vacant_message) (mod-eq_of_lt (omega (arith, w.few_messages))) ∙ sym (get_or-take n.waiting n.messages i vacant_message k)

  -- a number below the count is not reduced
  pub node_read : (u : ℕ) → u < n.count → node_in n u ≡ node_at (live n) u
  node_read u k =
      let w = well-formed n h in
      ap (λ i. get_or n.nodes i vacant_node) (mod-eq_of_lt (omega (arith, w.few_nodes))) ∙ sym (node-live u vacant_node k)

  lists : ListsWellFormed (live n)
  lists = lists-well-formed (live n) (well-formed n h).lists

  -- a right link names a node that is declared
  pub right_declared : (u q : ℕ) → u < n.count → (node_in n u).right ≡ Some q → q < n.count
  right_declared u q k e =
      let named : right_at (live n) u ≡ Some q = ap (λ (node : Node). node.right) (sym (node_read u k)) ∙ e in
      let fits = rw named at (lists.node u (rw nodes-length k)).right in
      rw nodes-length at (ltb-true q (length (live n).nodes) fits)
