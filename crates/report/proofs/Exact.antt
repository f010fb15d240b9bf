-- A tally that does not reach the ends of its counts is added up exactly. Assumes nothing.
use Rattle.std.proofs.Common.{◌≡◌, ℕ, ◌+◌, ◌%◌, ◌^◌, ◌<◌, ◌∙◌, mod-eq_of_lt, arith}
use Rattle.report.specs.declared.Tally.{Tally}

pub exactly : (t r : Tally) (more : ℕ) → (t.made < 65_535) × (t.posted + more < 4_294_967_296)
    → (r.made ≡ (t.made + 1) % 2 ^ 16) × (r.posted ≡ (t.posted + more) % 2 ^ 32) → r ≡ record { made = t.made + 1; posted = t.posted + more }
exactly t r more (few, below) (made, posted) = λ i. record { made = (made ∙ mod-eq_of_lt (omega (arith, few))) i; posted = (posted ∙ mod-eq_of_lt below) i }
