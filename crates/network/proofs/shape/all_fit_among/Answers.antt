-- `network::shape::all_fit_among` meets its contract, turn by turn. Assumes nothing.
use mathlib.Core.Path.{sym, ◌∙◌}
use native.Mathlib.Numerals.{add-one}
use native.Mathlib.Omega.{arith}
use Rattle.predicates.proofs.TestLaws.{below_fails}
use Rattle.protocol.specs.State.{State}
use Rattle.network.proofs.Clauses.{node-tested}
use Rattle.network.proofs.shape.all_fit_among.Goals as goal

pub returns-then-not-fits_among : goal.returns-then-not-fits_among
returns-then-not-fits_among c =
    let s : State = record { nodes = c.args.nodes.now; messages = c.args.messages.now } in
    let test = node-tested s c.loop-number.number _ c.loop-number-test.true (c.exchanges_of-exchanges.ensures c.loop-number.number (omega arith)) in
    sym (below_fails _ _ c.loop-number.number c.loop-number-test.true (sym test ∙ (sym c.fits_among.ensures ∙ c.if-not-fits_among.true)))

pub loop-number-preserved : goal.loop-number-preserved
loop-number-preserved c =
    let s : State = record { nodes = c.args.nodes.now; messages = c.args.messages.now } in
    let test = node-tested s c.loop-number.number _ c.loop-number-test.true (c.exchanges_of-exchanges.ensures c.loop-number.number (omega arith)) in
    rw (add-one, c.loop-number.invariant) (sym test ∙ (sym c.fits_among.ensures ∙ c.if-not-fits_among.false))
