-- `network::Network::is_well_formed` meets its contract: past the limits nothing else is asked, and
-- where a place past the counts is not vacant neither are the lists. Assumes nothing.
use mathlib.Core.Path.{◌≡◌, sym, ◌∙◌}
use native.Mathlib.Omega.{arith}
use lib.ListN.{length}
use Rattle.network.proofs.Clauses.{rest, past-limits, well-formed-tested}
use Rattle.network.proofs.Network.is_well_formed.Goals as goal

pub returns-then-not-self : goal.returns-then-not-self
returns-then-not-self c = sym (past-limits c.args.self.now c.if-not-self.true)

pub returns-then-are_vacant_nodes-are_vacant_messages : goal.returns-then-are_vacant_nodes-are_vacant_messages
returns-then-are_vacant_nodes-are_vacant_messages c =
    let n = c.args.self.now in
    let nodes : length n.nodes ≡ 32 = omega arith in
    let messages : length n.messages ≡ 64 = omega arith in
    let tested = well-formed-tested n (record { nodes = nodes; messages = messages }) in
    let vacant = c.if-are_vacant_nodes-are_vacant_messages.true in
    let vacant = rw (
      c.are_vacant_nodes.ensures,
      c.are_vacant_messages.ensures,
      c.declared-nodes.ensures.nodes,
      c.queue-messages.ensures.messages,
      rest n.nodes n.count 32 nodes,
      rest n.messages n.waiting 64 messages,
    ) at vacant in
    rw (c.lists_are_well_formed.ensures, c.declared-nodes.ensures.nodes, c.queue-messages.ensures.messages)
    (rw (c.if-not-self.false, vacant) at tested)

pub returns-else-are_vacant_nodes-are_vacant_messages : goal.returns-else-are_vacant_nodes-are_vacant_messages
returns-else-are_vacant_nodes-are_vacant_messages c =
    let n = c.args.self.now in
    let nodes : length n.nodes ≡ 32 = omega arith in
    let messages : length n.messages ≡ 64 = omega arith in
    let tested = well-formed-tested n (record { nodes = nodes; messages = messages }) in
    let misfit = c.if-are_vacant_nodes-are_vacant_messages.false in
    let misfit = rw (
      c.are_vacant_nodes.ensures,
      c.are_vacant_messages.ensures,
      c.declared-nodes.ensures.nodes,
      c.queue-messages.ensures.messages,
      rest n.nodes n.count 32 nodes,
      rest n.messages n.waiting 64 messages,
    ) at misfit in
    c.if-are_vacant_nodes-are_vacant_messages.false ∙ rw (c.if-not-self.false, misfit) at tested
