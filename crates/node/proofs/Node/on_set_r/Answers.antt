-- `node::Node::on_set_r` meets its contract: the branches are those of the definition, and a join
-- is granted only where the capped number is the next one. Assumes nothing.
use mathlib.Core.Path.{◌∙◌, sym, ap}
use borrow.Author.Tests.{eq-eqb}
use Rattle.parts.specs.Tests.{target}
use Rattle.node.specs.Actions.{granting, relinked, set_l, set_r_ack}
use Rattle.sequence.specs.Sequence.{capped_next}
use Rattle.sequence.proofs.Laws.{capped-next}
use Rattle.node.proofs.ActionLaws.{tested-link, granted}
use Rattle.node.proofs.Node.on_set_r.Goals as goal

pub returns-then-new-sender : goal.returns-then-new-sender
returns-then-new-sender c =
    let next = c.capped_next-next.ensures ∙ ap capped_next c.right_number.ensures in
    let u = c.args in
    let g = sym c.grants_request.ensures ∙ c.if-not-grants_request.false in
    let e = eq-eqb _ _ c.if-new-sender.true in
    let facts = granted _ _ _ _ g in
    let room = capped-next _ (facts.room e) in
    let to = sym (ap target (tested-link _ _ facts.right)) in
    simp (g, e)
    (λ i. granting (relinked u.self u.new u.number) (set_l u.me (to i) u.sender ((next ∙ room) i)) (set_r_ack u.me u.sender (next i)))
