-- No rules stand here: it is what the code leaves when a record is done with, for every progress,
-- report and text. That this is a step of a run, as `course` has it, is proved in the crate
-- `engine`. Definitions only.
use Rattle.std.specs.Prelude.{ℕ, ◌+◌, ◌%◌, ◌^◌, List}
use Rattle.refusal.specs.Code.{plain}
use Rattle.refusal.specs.Rules.{Coded, done, no}
use Rattle.protocol.specs.declared.Reply.{Reply}
use Rattle.protocol.specs.Answer.{answered}
use Rattle.report.specs.declared.Report.{Report}
use Rattle.printout.specs.Lines.{line_of, last_line}
use Rattle.printout.specs.Writing.{printed}
use Rattle.progress.specs.declared.Progress.{Progress}

-- all messages posted, after an answer that is reported with so many more: a refusal adds none
abbrev pub posted_after : ℕ → Coded Reply → ℕ → ℕ
posted_after all (done reply) more = (all + more) % 2 ^ 32
posted_after all (no reason) more = all

-- the progress after: the cursor, the ordinal, the posts
abbrev pub left : (p : Progress) (after : ℕ) → Report → Progress
left p after report = record {
  at = after;
  ordinal = (p.ordinal + 1) % 2 ^ 32;
  posted = posted_after p.posted (answered report.answer) report.posted;
}

-- the line of the record
abbrev pub line_after : Progress → Report → List ℕ
line_after p report = line_of ((p.ordinal + 1) % 2 ^ 32) (answered report.answer)

-- the text of so many bytes after the line that refuses a script as a whole, and the last line
abbrev pub refused : ℕ → List ℕ → List ℕ
refused size text = printed size (printed size text (line_of 0 (no (plain 7)))) (last_line 0 0)
