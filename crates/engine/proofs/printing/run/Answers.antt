-- `engine::printing::run` meets its contract: each turn is a step further, and after the last the
-- printout is whole (`LoopLaws`). Assumes nothing.
use Prim.Native.Nat.{◌+◌, ◌≤◌}
use mathlib.Core.Path.{◌≡◌, ◌∙◌}
use lib.ListN.{length}
use Rattle.printout.proofs.Laws.{printed_whole}
use Rattle.engine.specs.Reached.{text_size}
use Rattle.engine.proofs.StepOfScript.{State}
use Rattle.engine.proofs.LoopLaws.{begun, first-turn, has_room, may-step, next-turn, next-cursor, whole-printout}
use Rattle.engine.proofs.printing.run.Goals as goal

pub loop-p-init : goal.loop-p-init
loop-p-init c =
    let (at, (ordinal, posted)) = c.default-p.ensures in
    let none : c.default-p.result ≡ begun = λ i. record { at = at i; ordinal = ordinal i; posted = posted i } in
    rw none (first-turn c.args.script.now c.args.text.now c.nothing_kept-kept.result c.nothing_kept-kept.ensures c.requires.0)

pub step-p-requires : goal.step-p-requires
step-p-requires c =
    let x : State = record { kept = c.loop-p.kept; text = c.loop-p.text; progress = c.loop-p.p } in
    may-step c.args.script.now x c.loop-p.invariant c.requires.1 c.loop-p-test.true

pub loop-p-preserved : goal.loop-p-preserved
loop-p-preserved c =
    let x : State = record { kept = c.loop-p.kept; text = c.loop-p.text; progress = c.loop-p.p } in
    let y : State = record { kept = c.step-p.new.kept; text = c.step-p.new.text; progress = c.step-p.result } in
    next-turn c.args.script.now x c.loop-p.invariant c.requires.1 c.loop-p-test.true y c.step-p.ensures

pub loop-p-smaller : goal.loop-p-smaller
loop-p-smaller c =
    let x : State = record { kept = c.loop-p.kept; text = c.loop-p.text; progress = c.loop-p.p } in
    let y : State = record { kept = c.step-p.new.kept; text = c.step-p.new.text; progress = c.step-p.result } in
    next-cursor c.args.script.now x c.loop-p.invariant c.requires.1 c.loop-p-test.true y c.step-p.ensures

pub returns : goal.returns
returns c =
    let x : State = record { kept = c.loop-p.kept; text = c.loop-p.text; progress = c.loop-p.p } in
    let told = c.sizes.ensures in
    let room : length c.loop-p.text + 40 ≤ text_size = has_room c.args.script.now x c.loop-p.invariant c.requires.1 in
    c.last_line.ensures.text_after
    ∙ printed_whole _ _ _ room
    ∙ whole-printout c.args.script.now x c.loop-p.invariant c.requires.1 (record { nodes = told.nodes; messages = told.messages }) c.loop-p-test.false
