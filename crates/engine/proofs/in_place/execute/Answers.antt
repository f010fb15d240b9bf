-- `engine::in_place::execute` meets its contract, by the task: a question leaves the network, and
-- nothing is posted. Assumes nothing.
use mathlib.Core.Path.{sym, ap, ◌∙◌}
use Rattle.engine.specs.Outcomes.{counted}
use Rattle.std.specs.Prelude.{Ok}
use Rattle.engine.specs.Computed.{done_on}
use Rattle.engine.proofs.TaskLaws.{peek-told, owner-told}
use Rattle.engine.proofs.in_place.execute.Goals as goal

pub returns-in-Owner : goal.returns-in-Owner
returns-in-Owner c =
    let n = c.args.network.now in
    let asks = c.in-Owner in
    let is = c.in-Ok.is ∙ ap Ok asks.is in
    owner-told n (record { nodes = c.sizes.ensures.nodes; messages = c.sizes.ensures.messages }) (rw is at c.requires) asks.start asks.serial c.told.result
    (c.told.ensures.0 ∙ c.owner_of_record.ensures) c.told.ensures.1
    ∙ ap (λ t. counted (done_on n t)) (sym is)

pub returns-in-Peek : goal.returns-in-Peek
returns-in-Peek c =
    let n = c.args.network.now in
    let is = c.in-Ok.is ∙ ap Ok c.in-Peek.is in
    peek-told n (record { nodes = c.sizes-in-Peek.ensures.nodes; messages = c.sizes-in-Peek.ensures.messages }) (rw is at c.requires) c.peek.result c.peek.ensures.0 c.peek.ensures.1
    ∙ ap (λ t. counted (done_on n t)) (sym is)
