-- `printout::last_line` meets its contract: what it says finds room, and the line end after it. Assumes nothing.
use mathlib.Core.Path.{sym, ◌∙◌}
use native.Mathlib.Omega.{arith}
use borrow.Author.Tests.{leb-true}
use Rattle.printout.specs.Lines.{last_line}
use Rattle.printout.proofs.Laws.{line_ended}
use Rattle.printout.proofs.last_line.Goals as goal

pub returns-then-has_room-clause-text_after : goal.returns-then-has_room-clause-text_after
unfolding last_line
returns-then-has_room-clause-text_after g c =
    let room = leb-true _ _ (sym c.has_room.ensures ∙ c.if-has_room.true) in
    c.append.ensures ∙ rw (c.put_pair.ensures.text_after, c.from.ensures) (line_ended _ _ _ room (omega (arith, rw c.from.ensures at c.put_pair.ensures.short)))
