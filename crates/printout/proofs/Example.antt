-- The printout of paper 01, byte by byte, from what is said of its records. It computes. Assumes
-- nothing.
use Prim.Native.Nat.{ℕ, suc}
use mathlib.Core.Path.{◌≡◌, refl}
use mathlib.Core.List.{List, [], ◌∷◌, ◌++◌}
use Rattle.text.specs.Text.{ascii, decimal}
use Rattle.refusal.specs.Code.{plain}
use Rattle.refusal.specs.Rules.{Coded, done, no}
use Rattle.node.specs.declared.Outcome.TheVariants.{Created, Waiting, Granted, Denied, Joined, LeaveDenied, LeftSet}
use Rattle.protocol.specs.declared.Reply.{Reply}
use Rattle.protocol.specs.declared.Reply.TheVariants.{Declared, Stepped, Owner}
use Rattle.printout.specs.Lines.{heading, line_of, last_line}

abbrev lines : ℕ → List (Coded Reply) → List ℕ
lines ordinal [] = []
lines ordinal (s ∷ rest) = line_of ordinal s ++ lines (suc ordinal) rest

abbrev said_in_the_paper : List (Coded Reply)
said_in_the_paper =
    done (Declared 0 1_000)
    ∷ done (Declared 1 2_000)
    ∷ done (Stepped Created)
    ∷ done (Stepped Waiting)
    ∷ done (Stepped Granted)
    ∷ done (Stepped Joined)
    ∷ done (Stepped Waiting)
    ∷ done (Stepped Denied)
    ∷ done (Stepped LeftSet)
    ∷ done (Stepped LeaveDenied)
    ∷ done (Owner 1 1)
    ∷ no (plain 29)
    ∷ []

abbrev pub paper_printout : List ℕ
paper_printout =
    ascii "ring 1\n"
    ++ ascii "1 bench 0 key 1000\n"
    ++ ascii "2 bench 1 key 2000\n"
    ++ ascii "3 created\n"
    ++ ascii "4 waiting\n"
    ++ ascii "5 granted\n"
    ++ ascii "6 joined\n"
    ++ ascii "7 waiting\n"
    ++ ascii "8 denied\n"
    ++ ascii "9 left-set\n"
    ++ ascii "10 leave-denied\n"
    ++ ascii "11 owner 1 hops 1\n"
    ++ ascii "12 no 29\n"
    ++ ascii "end 0 posted 5\n"

pub printed_in_the_paper : heading ++ lines 1 said_in_the_paper ++ last_line 0 5 ≡ paper_printout
unfolding line_of last_line decimal
printed_in_the_paper = refl
