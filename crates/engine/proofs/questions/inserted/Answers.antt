-- `engine::questions::inserted` meets its contract: 6 where the network is not well formed, and
-- else the question. Assumes nothing.
use mathlib.Core.Path.{sym, ◌∙◌}
use Rattle.network.proofs.Lengths.{lengths}
use Rattle.members.proofs.MemberLaws.{inserted-told}
use Rattle.engine.specs.Answers.{inserted_of}
use Rattle.engine.proofs.questions.inserted.Goals as goal

pub returns-then-not-is_well_formed : goal.returns-then-not-is_well_formed
unfolding inserted_of
returns-then-not-is_well_formed c = rw (sym c.is_well_formed.ensures ∙ c.if-not-is_well_formed.true)

pub returns : goal.returns
unfolding inserted_of
returns c =
    let h = sym c.is_well_formed.ensures ∙ c.if-not-is_well_formed.false in
    rw h (c.inserted.ensures ∙ inserted-told c.args.network (lengths _ _ c.well_formed.0) h)
