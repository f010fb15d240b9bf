-- The intervals (a, b) and [a, b) on the circle of keys. Definitions only.
use Rattle.std.specs.Prelude.{ℕ, Bool, not, ◌&&◌, ◌||◌, ltb, eqb}

-- R3.1: u lies in (a, b), by how a and b compare
unfoldable pub between : ℕ → ℕ → ℕ → Bool
between a b u = (ltb a b && (ltb a u && ltb u b)) || ((ltb b a && (ltb a u || ltb u b)) || (eqb a b && not (eqb u a)))

-- R3.2: [a, b) has a as well
unfoldable pub within : ℕ → ℕ → ℕ → Bool
within a b u = eqb u a || between a b u
