-- `printout::put_pair` meets its contract: each piece finds room, since the numbers have few digits.
-- Assumes nothing.
use native.Mathlib.Omega.{arith}
use Rattle.std.proofs.lemmas.Grind.{common_steps}
use Rattle.printout.proofs.Laws.{short_pair}
use Rattle.printout.proofs.put_pair.Goals as goal

pub returns-clause-text_after : goal.returns-clause-text_after
returns-clause-text_after g c =
    let short = short_pair c.args.word.now c.args.second.now c.args.n c.args.m c.ranges.n.fits c.ranges.m.fits in
    grind (arith, common_steps, short)

pub returns-clause-short : goal.returns-clause-short
returns-clause-short g c = short_pair c.args.word.now c.args.second.now c.args.n c.args.m c.ranges.n.fits c.ranges.m.fits
