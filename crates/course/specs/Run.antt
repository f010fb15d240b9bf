-- The printout of a script: its records one after the other from the empty network, a line for
-- each. Definitions only.
use Rattle.std.specs.Prelude.{ℕ, zero, suc, ◌+◌, cond, List, ◌++◌, length, ltb}
use Rattle.refusal.specs.Code.{plain}
use Rattle.refusal.specs.Rules.{no}
use Rattle.protocol.specs.State.{State, empty}
use Rattle.script.specs.Script.{Read, end, stop, next, read_at}
use Rattle.printout.specs.Lines.{heading, line_of, last_line}
use Rattle.course.specs.Execution.{execute_of}

-- R9.7, R9.8: how far a run has come: the network, the cursor, the ordinal of the last record, all
-- messages posted, and the printout so far
pub record Progress : Type 0 where
  pub state : State
  pub at : ℕ
  pub ordinal : ℕ
  pub posted : ℕ
  pub text : List ℕ

-- R9.7: from the empty network, with the first line printed
abbrev pub start : Progress
start = record { state = empty; at = 0; ordinal = 0; posted = 0; text = heading }

-- one more record, by what is read at the cursor; R9.5: 1 and 2 end the reading, since nothing is
-- read past the end, and after any other refusal it goes on
abbrev pub advanced : List ℕ → Progress → Read → Progress
advanced script p end = p
advanced script p (stop r) = record { state = p.state; at = length script; ordinal = p.ordinal + 1; posted = p.posted; text = p.text ++ line_of (p.ordinal + 1) (no r) }
advanced script p (next asked after) = record {
  state = (execute_of p.state asked).state;
  at = after;
  ordinal = p.ordinal + 1;
  posted = p.posted + length (execute_of p.state asked).posts;
  text = p.text ++ line_of (p.ordinal + 1) (execute_of p.state asked).said;
}

-- R9.7: one more record, where the cursor stands
abbrev pub step_of : List ℕ → Progress → Progress
step_of script p = advanced script p (read_at script p.at)

-- R9.7: after so many records; past the last one there is no change
abbrev pub after : List ℕ → ℕ → Progress
after script zero = start
after script (suc k) = step_of script (after script k)

-- R9.8: the last line, with the messages that wait and all that were posted
abbrev pub closed : Progress → List ℕ
closed p = p.text ++ last_line (length p.state.messages) p.posted

-- R9.1: how long a script may be
abbrev pub size_limit : ℕ
size_limit = 65_536

-- R9.1: the printout of one that is too long
abbrev pub too_long : List ℕ
too_long = (heading ++ line_of 0 (no (plain 7))) ++ last_line 0 0

-- R9.1, R9.7, R9.8: the whole printout; a script has no more records than bytes
unfoldable pub printout_of : List ℕ → List ℕ
printout_of script = cond (ltb size_limit (length script)) too_long (closed (after script (length script)))
