-- No rules stand here: it is what a page of fixed size holds after a piece of text was appended, be
-- there room for the piece or not. Definitions only.
use Rattle.std.specs.Prelude.{ℕ, ◌+◌, if◌then◌else◌, List, ◌++◌, length, leb}

-- the piece behind what the page has; all is as it was where the piece finds no room
abbrev pub appended : ℕ → List ℕ → List ℕ → List ℕ
appended size page piece = if leb (length page + length piece) size then page ++ piece else page
