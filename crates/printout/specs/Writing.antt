-- No rules stand here: it is what the code makes of a text of fixed size where it prints a line. What
-- the lines say is in `Lines.antt`. Definitions only.
use Rattle.std.specs.Prelude.{ℕ, ◌+◌, ◌≤◌, if◌then◌else◌, List, ◌++◌, length, leb}

-- the line behind what the text has; all is as it was where forty bytes find no room
abbrev pub printed : ℕ → List ℕ → List ℕ → List ℕ
printed size text line = if leb (length text + 40) size then text ++ line else text

-- a text afterwards, with at most a line more
abbrev pub LongerByALine : List ℕ → List ℕ → Type 0
LongerByALine text after = length after ≤ length text + 40
