-- `network::shape::lists_are_well_formed` meets its contract: where a node or a message does not fit,
-- nothing else is asked. Assumes nothing.
use mathlib.Core.Path.{sym, ◌∙◌}
use mathlib.Core.Bool.{◌&&◌}
use Rattle.protocol.specs.State.{State}
use Rattle.network.proofs.Clauses.{lists-tested}
use Rattle.network.proofs.shape.lists_are_well_formed.Goals as goal

pub returns-then-nodes_fit-messages_fit : goal.returns-then-nodes_fit-messages_fit
returns-then-nodes_fit-messages_fit c =
    let s : State = record { nodes = c.args.nodes.now; messages = c.args.messages.now } in
    let tested = lists-tested s in
    let fit = (λ i. sym c.nodes_fit.ensures i && sym c.messages_fit.ensures i) ∙ c.if-nodes_fit-messages_fit.true in
    c.all_fit_among.ensures ∙ rw fit at tested

pub returns-else-nodes_fit-messages_fit : goal.returns-else-nodes_fit-messages_fit
returns-else-nodes_fit-messages_fit c =
    let s : State = record { nodes = c.args.nodes.now; messages = c.args.messages.now } in
    let tested = lists-tested s in
    let fit = (λ i. sym c.nodes_fit.ensures i && sym c.messages_fit.ensures i) ∙ c.if-nodes_fit-messages_fit.false in
    c.if-nodes_fit-messages_fit.false ∙ rw fit at tested
