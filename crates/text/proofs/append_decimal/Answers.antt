-- `text::append_decimal` meets its contract. The loop's invariant: the digits are in place but for
-- the first and i more, which hold the rest. Assumes nothing.
use native.Mathlib.Omega.{arith}
use Rattle.text.proofs.Spelling.{go_on_spelling, end_spelling, no-room-to-spell, all-spelled}
use Rattle.text.proofs.append_decimal.Goals as goal

pub returns-then-buffer-count : goal.returns-then-buffer-count
returns-then-buffer-count c = let e = no-room-to-spell c.digits_of-count.ensures _ _ (omega arith) in record { value = e.0; buffer_after = e.1 }

pub returns-then-buffer-count-2 : goal.returns-then-buffer-count-2
returns-then-buffer-count-2 c = let e = no-room-to-spell c.digits_of-count.ensures _ _ (omega arith) in record { value = e.0; buffer_after = e.1 }

pub loop-i-preserved : goal.loop-i-preserved
loop-i-preserved c = go_on_spelling c.loop-i.invariant (omega arith)

pub returns : goal.returns
returns c = let e = all-spelled c.digits_of-count.ensures (end_spelling c.loop-i.invariant c.loop-i-test.false) in record { value = e.0; buffer_after = e.1 }
