-- `engine::questions::owner` meets its contract: 6 where the network is not well formed, and else
-- the question. Assumes nothing.
use mathlib.Core.Path.{sym, ◌∙◌}
use Rattle.network.proofs.Lengths.{lengths}
use Rattle.owners.proofs.QuestionLaws.{owner-live}
use Rattle.engine.specs.Answers.{owner_of}
use Rattle.engine.proofs.questions.owner.Goals as goal

pub returns-then-is_well_formed : goal.returns-then-is_well_formed
unfolding owner_of
returns-then-is_well_formed c =
    let h = sym c.is_well_formed.ensures ∙ c.if-is_well_formed.true in
    rw h (c.owner.ensures ∙ owner-live c.args.network (lengths _ _ c.well_formed.0) h c.args.start c.args.serial)

pub returns-else-is_well_formed : goal.returns-else-is_well_formed
unfolding owner_of
returns-else-is_well_formed c = rw (sym c.is_well_formed.ensures ∙ c.if-is_well_formed.false)
