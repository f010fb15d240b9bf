-- `engine::in_place::act` meets its contract: the decision made and carried out where the network
-- lies is what the rules make of the lists. Assumes nothing.
use mathlib.Core.Path.{sym, ap, ◌∙◌}
use Rattle.refusal.specs.Code.{reason}
use Rattle.decision.specs.Decided.{decided}
use Rattle.engine.specs.Outcomes.{reported}
use Rattle.engine.specs.Computed.{outcome}
use Rattle.engine.proofs.CallLaws.{decides, nothing-written}
use Rattle.engine.proofs.in_place.act.Goals as goal

pub returns-in-Ok : goal.returns-in-Ok
returns-in-Ok c =
    let n = c.args.network.now in
    (λ i. reported (c.commit.ensures i) c.in-Ok.decision.report)
    ∙ ap (outcome n) (sym (ap decided c.in-Ok.is) ∙ c.decide.ensures)
    ∙ decides n (record { nodes = c.sizes.ensures.nodes; messages = c.sizes.ensures.messages }) c.requires c.args.call

pub returns-in-Err : goal.returns-in-Err
returns-in-Err c =
    let n = c.args.network.now in
    (λ i. record { network = n; posted = c.refused.ensures.1 i; said = c.refused.ensures.0 i })
    ∙ nothing-written n (reason c.in-Err.refusal)
    ∙ ap (outcome n) (sym (ap decided c.in-Err.is) ∙ c.decide.ensures)
    ∙ decides n (record { nodes = c.sizes.ensures.nodes; messages = c.sizes.ensures.messages }) c.requires c.args.call
