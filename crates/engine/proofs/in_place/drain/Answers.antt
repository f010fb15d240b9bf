-- `engine::in_place::drain` meets its contract: after each turn the drain is underway (`DrainLaws`),
-- and where nothing waits, or the budget is spent, it is finished. Assumes nothing.
use mathlib.Core.Path.{◌≡◌, sym, ◌∙◌}
use Prim.Native.Nat.{◌+◌}
use native.Mathlib.Omega.{arith}
use Rattle.report.proofs.Exact.{exactly}
use Rattle.engine.specs.Outcomes.{reported}
use Rattle.engine.proofs.DrainLaws.{not-spent, next_fits, next-goes-on, stops}
use Rattle.engine.proofs.in_place.drain.Goals as goal

-- the tally does not reach the ends of its counts
counted-so : (c : goal.After-tallied-tally) → c.tallied-tally.result ≡ record { made = c.loop-network.tally.made + 1; posted = c.loop-network.tally.posted + c.deliver-report.result.posted }
counted-so c =
    let made = c.deliver-report in
    let goes = sym c.goes_on.ensures ∙ c.loop-network-test.true in
    let fits = next_fits c.loop-network.invariant (reported made.new.network made.result) goes made.ensures c.requires c.ranges.budget.fits in
    exactly c.loop-network.tally c.tallied-tally.result made.result.posted fits c.tallied-tally.ensures

pub loop-network-preserved : goal.loop-network-preserved
loop-network-preserved c =
    let made = c.deliver-report in
    let goes = sym c.goes_on.ensures ∙ c.loop-network-test.true in
    rw (counted-so c) (next-goes-on c.loop-network.invariant (reported made.new.network made.result) goes made.ensures)

pub loop-network-smaller : goal.loop-network-smaller
loop-network-smaller c = let goes = sym c.goes_on.ensures ∙ c.loop-network-test.true in rw (counted-so c) (omega (arith, not-spent c.loop-network.invariant goes))

pub returns : goal.returns
returns c =
    let over = sym c.goes_on.ensures ∙ c.loop-network-test.false in
    (λ i. record { network = c.loop-network.network; posted = c.ran.ensures.1 i; said = c.ran.ensures.0 i })
    ∙ stops c.loop-network.invariant c.requires over
