-- `engine::printing::step` meets its contract: what is asked is done where the network lies, and what
-- is left of it is what `step_of` says (`StepOfScript`). Assumes nothing.
use mathlib.Core.Path.{refl}
use Rattle.engine.specs.Outcomes.{reported}
use Rattle.engine.proofs.StepOfScript.{allowed, does, leaves-so}
use Rattle.engine.proofs.printing.step.Goals as goal

pub execute-report-requires : goal.execute-report-requires
execute-report-requires c = allowed _ c.requires.0 c.ask-asked.result.task

pub returns : goal.returns
returns c =
    let n = c.args.kept.now.network in
    let p = c.args.p in
    let r = c.leave_record.result in
    let asked = c.ask-asked.result in
    let told = c.sizes.ensures in
    let m = c.execute-report.new.network in
    let report = c.execute-report.result in
    let may = c.requires in
    let did = does c.args.script.now n (record { nodes = told.nodes; messages = told.messages }) may.0 p.at may.1 asked c.ask-asked.ensures (reported m report) c.execute-report.ensures in
    let left = leaves-so p r asked.after m report c.args.text.now c.leave_record.new.text (may.2, may.3, may.4) did.few did.quiet c.leave_record.ensures.progress c.leave_record.ensures.text_after c.leave_record.ensures.short in
    (did.comes p r c.args.text.now c.leave_record.new.text refl left, did.kept, left.4)
