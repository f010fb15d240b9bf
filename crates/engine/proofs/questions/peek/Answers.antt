-- `engine::questions::peek` meets its contract: 6 where the network is not well formed, and else
-- how many messages its lists have. Assumes nothing.
use mathlib.Core.Path.{sym, ◌∙◌}
use mathlib.Core.Logic.{⊎_elim}
use Rattle.predicates.proofs.TestLaws.{decided}
use Rattle.network.specs.Arrays.{well_formed}
use Rattle.network.proofs.Lengths.{lengths}
use Rattle.engine.specs.Answers.{peek_of}
use Rattle.engine.proofs.TaskLaws.{peeked}
use Rattle.engine.proofs.questions.peek.Goals as goal

pub returns : goal.returns
unfolding peek_of
returns c =
    let n = c.args.network in
    rw (c.unwrap_or.ensures, c.then_some.ensures, c.is_well_formed.ensures)
    (⊎_elim (λ h. rw h (c.peek.ensures.0 ∙ sym (peeked n (lengths _ _ c.well_formed.0) h))) (λ f. rw f) (decided (well_formed n)))
