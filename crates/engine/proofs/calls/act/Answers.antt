-- `engine::calls::act` meets its contract: 6 where the network is not well formed, and else the call
-- past the test. Assumes nothing.
use mathlib.Core.Path.{sym, ◌∙◌}
use Rattle.engine.proofs.RunLaws.{malformed}
use Rattle.engine.proofs.TaskLaws.{six-told}
use Rattle.engine.proofs.calls.act.Goals as goal

pub returns-else-is_well_formed : goal.returns-else-is_well_formed
returns-else-is_well_formed c =
    let six = malformed c.args.network.now c.args.call (sym c.is_well_formed.ensures ∙ c.if-is_well_formed.false) in
    six-told c.args.network.now c.refused.result six c.refused.ensures.0 c.refused.ensures.1
