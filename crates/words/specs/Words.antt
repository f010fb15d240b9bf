-- R9.7: what the printout calls an outcome of section 5 of docs/RULES.md. Definitions only.
use Rattle.std.specs.Prelude.{ℕ, List}
use Rattle.text.specs.Text.{ascii}
use Rattle.node.specs.declared.Outcome.{Outcome}
use Rattle.node.specs.declared.Outcome.TheVariants.{Created, Waiting, LeftAlone, Granted, Denied, Joined, Gone, JoinDenied, LeaveDenied, LeftSet, LeftOld, Dropped}

-- R9.7: the word of each outcome
abbrev pub outcome_word : Outcome → List ℕ
outcome_word Created = ascii "created"
outcome_word Waiting = ascii "waiting"
outcome_word LeftAlone = ascii "out"
outcome_word Granted = ascii "granted"
outcome_word Denied = ascii "denied"
outcome_word Joined = ascii "joined"
outcome_word Gone = ascii "gone"
outcome_word JoinDenied = ascii "join-denied"
outcome_word LeaveDenied = ascii "leave-denied"
outcome_word LeftSet = ascii "left-set"
outcome_word LeftOld = ascii "left-old"
outcome_word Dropped = ascii "dropped"
