-- `engine::drains::drain_in_place` meets its contract: 6 where the network is not well formed, and
-- else the drain past the test. Assumes nothing.
use mathlib.Core.Path.{sym, ◌∙◌}
use Rattle.engine.proofs.RunLaws.{malformed_drain}
use Rattle.engine.proofs.TaskLaws.{six-told}
use Rattle.engine.proofs.drains.drain_in_place.Goals as goal

pub returns-else-is_well_formed : goal.returns-else-is_well_formed
returns-else-is_well_formed c =
    let six = malformed_drain c.args.network.now c.args.budget (sym c.is_well_formed.ensures ∙ c.if-is_well_formed.false) in
    six-told c.args.network.now c.refused.result six c.refused.ensures.0 c.refused.ensures.1
