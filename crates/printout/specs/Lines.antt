-- The printout, line by line (R9.7, R9.8): what is answered to a record, in the words of the
-- printout. Definitions only.
use Rattle.std.specs.Prelude.{ℕ, List, [], ◌++◌}
use Rattle.text.specs.Text.{ascii, decimal}
use Rattle.refusal.specs.Code.{plain}
use Rattle.refusal.specs.Rules.{Coded, done, no}
use Rattle.words.specs.Words.{outcome_word}
use Rattle.protocol.specs.declared.Reply.{Reply}
use Rattle.protocol.specs.declared.Reply.TheVariants.{Declared, Stepped, Owner, Ran, Inserted}

-- ---- R9.7: the words of an answer
-- a word and a number, and then another word and another number
abbrev pub pair : List ℕ → ℕ → List ℕ → ℕ → List ℕ
pair word n word' n' = word ++ decimal n ++ word' ++ decimal n'

-- R9.7: the words of what is done; who is inserted is asked by no record of a script, and has no
-- words
abbrev pub reply_words : Reply → List ℕ
reply_words (Declared number key) = pair (ascii "bench ") number (ascii " key ") key
reply_words (Stepped o) = outcome_word o
reply_words (Owner u hops) = pair (ascii "owner ") u (ascii " hops ") hops
reply_words (Ran made left) = pair (ascii "ran ") made (ascii " left ") left
reply_words (Inserted word size) = []

-- R9.7: or the number of a refusal
abbrev pub words : Coded Reply → List ℕ
words (done reply) = reply_words reply
words (no (plain n)) = ascii "no " ++ decimal n

-- ---- the lines
-- R9.7: the first line
abbrev pub heading : List ℕ
heading = ascii "ring 1\n"

-- R9.7: the line of a record, its ordinal and what is said
unfoldable pub line_of : ℕ → Coded Reply → List ℕ
line_of ordinal s = decimal ordinal ++ ascii " " ++ words s ++ ascii "\n"

-- R9.8: the last line
unfoldable pub last_line : ℕ → ℕ → List ℕ
last_line waiting posted = pair (ascii "end ") waiting (ascii " posted ") posted ++ ascii "\n"
