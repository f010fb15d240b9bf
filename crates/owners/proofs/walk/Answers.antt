-- `owners::walk` meets its contract: a turn that finds no owner goes on from the next node
-- (`TurnLaws`). Assumes nothing.
use mathlib.Core.Path.{sym, ap, ◌∙◌}
use Rattle.interval.specs.Interval.{within}
use Rattle.node.specs.declared.Node.{Node}
use Rattle.owners.proofs.TurnLaws.{goes_on}
use Rattle.owners.proofs.walk.Goals as goal

pub loop-hops-preserved : goal.loop-hops-preserved
loop-hops-preserved c =
    let link = ap (λ (node : Node). node.right) (sym c.node-here.ensures) ∙ c.in-Some.is in
    let test =
    (λ i. within (sym c.node-here.ensures i).key (sym c.node.ensures i).key c.args.serial) ∙ sym c.is_within.ensures ∙ c.if-is_within.false in
    sym (goes_on c.args.network.now c.args.serial c.loop-hops.node c.loop-hops.hops c.loop-hops-test.true _ link test) ∙ c.loop-hops.invariant
