-- `text::append_decimal` meets its contract. The loop's invariant: the digits are in place but for
-- the first and i more, which hold the rest. Assumes nothing.
use Rattle.text.proofs.Spelling.{Spelling}
use Rattle.text.proofs.append_decimal.Given as goal

abbrev pub invariant-loop-i : goal.invariant-loop-i
invariant-loop-i l = Spelling l.initial.buffer l.at l.n l.count l.buffer l.i l.rest

abbrev pub decreases-loop-i : goal.decreases-loop-i
decreases-loop-i l = l.i
