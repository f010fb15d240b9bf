-- No rules stand here: it is how far the code has come in a run, read off its network, its progress
-- and its text in the words of the definition; and how long the text may be. Definitions only.
use Rattle.std.specs.Prelude.{ℕ, List}
use Rattle.network.specs.declared.Network.{Network}
use Rattle.network.specs.Arrays.{live}
use Rattle.progress.specs.declared.Progress.{Progress}
use Rattle.course.specs.Run.{Progress as ProgressOfLists}

-- the network beside the progress and the printout so far
abbrev pub reached : Network → Progress → List ℕ → ProgressOfLists
reached n p text = record { state = live n; at = p.at; ordinal = p.ordinal; posted = p.posted; text = text }

-- how many bytes the text of a printout has room for (`TEXT_SIZE`)
abbrev pub text_size : ℕ
text_size = 874_000
