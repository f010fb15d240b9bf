-- No rules stand here: it is what the code asks before each delivery of a drain. What a budget
-- allows is said by R8.1, and `not-spent` and `stops` (`engine/proofs/DrainLaws`) show that a drain
-- which asks this makes as many deliveries. Definitions only.
use Rattle.std.specs.Prelude.{ℕ, Bool, ◌&&◌, ◌||◌, eqb, ltb}

-- with so many deliveries made and so many messages waiting
abbrev pub goes_on : (budget made waiting : ℕ) → Bool
goes_on budget made waiting = (eqb budget 0 || ltb made budget) && ltb 0 waiting
