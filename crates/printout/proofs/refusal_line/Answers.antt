-- `printout::refusal_line` meets its contract: what it says finds room, and the line end after it. Assumes nothing.
use mathlib.Core.Path.{◌≡◌, sym, ◌∙◌}
use mathlib.Core.List.{◌++◌}
use Prim.Native.Nat.{◌≤◌}
use native.Mathlib.Omega.{arith}
use lib.ListN.{length}
use borrow.Author.Tests.{leb-true}
use Rattle.std.proofs.lemmas.Grind.{common_steps}
use Rattle.text.specs.Text.{ascii, decimal}
use Rattle.refusal.specs.Code.{reason}
use Rattle.refusal.specs.Rules.{no}
use Rattle.printout.specs.Lines.{words, line_of}
use Rattle.printout.proofs.Laws.{line_ended}
use Rattle.printout.proofs.refusal_line.Goals as goal

pub returns-then-has_room-clause-text_after : goal.returns-then-has_room-clause-text_after
unfolding line_of
returns-then-has_room-clause-text_after g c =
    let said = decimal c.args.ordinal ++ ascii " " ++ words (no (reason c.args.refusal)) in
    let room = leb-true _ _ (sym c.has_room.ensures ∙ c.if-has_room.true) in
    let text_after : c.append_decimal-then-has_room.new.self ≡ c.args.text.now ++ said = grind (arith, common_steps) in
    let short : length said ≤ 39 = grind (arith, common_steps) in
    c.append-then-has_room.ensures ∙ rw text_after (line_ended _ _ said room short)
