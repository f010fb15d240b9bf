-- `engine::printing::printout` meets its contract: the heading is put first, and then what follows
-- it in a script within the limit or over it. Assumes nothing.
use mathlib.Core.Path.{◌≡◌, refl, sym, ◌∙◌}
use Rattle.printout.specs.Lines.{heading}
use Rattle.engine.proofs.StepOfScript.{refused-whole}
use Rattle.engine.proofs.LoopLaws.{too_long_lem, not-too-long}
use Rattle.engine.proofs.printing.printout.Goals as goal

pub returns-then-script-gt-SIZE_LIMIT : goal.returns-then-script-gt-SIZE_LIMIT
returns-then-script-gt-SIZE_LIMIT c =
    let begun : c.append.new.self ≡ heading = c.append.ensures ∙ rw c.clear.ensures refl in
    refused-whole begun c.refuse_script.ensures.text_after ∙ sym (too_long_lem _ c.if-script-gt-SIZE_LIMIT.true)

pub returns-else-script-gt-SIZE_LIMIT : goal.returns-else-script-gt-SIZE_LIMIT
returns-else-script-gt-SIZE_LIMIT c = c.run.ensures ∙ sym (not-too-long _ c.if-script-gt-SIZE_LIMIT.false)
