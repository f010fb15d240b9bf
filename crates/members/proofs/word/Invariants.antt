-- `members::word` meets its contract: with each turn the word is that of the nodes passed. Assumes
-- nothing.
use mathlib.Core.Path.{◌≡◌}
use Rattle.predicates.specs.Tests.{word_below}
use Rattle.members.specs.Members.{member_in}
use Rattle.members.proofs.word.Given as goal

abbrev pub invariant-loop-number : goal.invariant-loop-number
invariant-loop-number l = l.word ≡ word_below l.number (member_in l.network)
