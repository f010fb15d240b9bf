-- No rules stand here: it is what the code makes of a buffer where it puts a piece of text, and the
-- place that it comes to, be there room for the piece or not. Definitions only.
use Rattle.std.specs.Prelude.{ℕ, ◌+◌, ◌≡◌, Bool, cond, List, length, leb}
use Rattle.std.proofs.Math.Seq.{paste}

-- whether a piece of text finds room in a buffer from place `at` on
abbrev pub fits : List ℕ → ℕ → List ℕ → Bool
fits buffer at piece = leb (at + length piece) (length buffer)

-- what the buffer then holds: it is as it was where the piece does not fit
unfoldable pub pasted : List ℕ → ℕ → List ℕ → List ℕ
pasted buffer at piece = cond (fits buffer at piece) (paste buffer at piece (length piece)) buffer

-- the place after the piece, or the same where it does not fit
unfoldable pub place_after : List ℕ → ℕ → List ℕ → ℕ
place_after buffer at piece = cond (fits buffer at piece) (at + length piece) at

-- both: from `buffer` to `after` the piece was put at place `at`, and r is the place after it
pub record Put (buffer : List ℕ) (at : ℕ) (piece after : List ℕ) (r : ℕ) : Type 0 where
  pub place : r ≡ place_after buffer at piece
  pub written : after ≡ pasted buffer at piece
