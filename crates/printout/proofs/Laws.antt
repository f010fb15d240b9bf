-- Laws of the lines of the printout: how long what they say is, and that a line finds room where forty
-- bytes do. Assumes nothing.
use Prim.Native.Nat.{ℕ, ◌+◌, ◌^◌, ◌≤◌, ◌<◌}
use mathlib.Core.Path.{◌≡◌}
use mathlib.Core.List.{List, ◌++◌, append_assoc}
use native.Mathlib.Omega.{arith}
use lib.ListN.{length, length-append}
use borrow.Author.Tests.{le-leb}
use Rattle.text.specs.Text.{ascii}
use Rattle.text.specs.Pages.{appended}
use Rattle.text.proofs.DecimalLaws.{few-digits}
use Rattle.printout.specs.Lines.{pair}
use Rattle.printout.specs.Writing.{printed}

pub short_pair : (word second : List ℕ) (n m : ℕ) → n < 2 ^ 16 → m < 2 ^ 32 → length (pair word n second m) ≤ length word + length second + 15
short_pair word second n m small large =
    simp length-append (omega (arith, few-digits 5 n (omega arith) (omega arith), few-digits 10 m (omega arith) (omega arith)))

pub line_ended : (size : ℕ) (text said : List ℕ) → length text + 40 ≤ size → length said ≤ 39 → appended size (text ++ said) (ascii "\n") ≡ printed size text (said ++ ascii "\n")
line_ended size text said room short =
    let fits : length (text ++ said) + 1 ≤ size = omega (arith, length-append text said) in
    rw (le-leb _ _ fits, le-leb _ _ room) (append_assoc text said (ascii "\n"))

-- ---- for callers: what a text holds after a line was printed
pub printed_whole : (size : ℕ) (text line : List ℕ) → length text + 40 ≤ size → printed size text line ≡ text ++ line
printed_whole size text line room = rw (le-leb _ _ room)
