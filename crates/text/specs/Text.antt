-- Text as a list of bytes: words in ASCII, numbers in decimal. Definitions only.
use Rattle.std.specs.Prelude.{ℕ, zero, suc, ◌+◌, ◌/◌, ◌%◌, cond, List, [], ◌∷◌, ◌++◌, ltb}
use Prim.Native.Char.{code}
use Prim.Native.String.{String, [] as end_of_word, ◌∷◌ as ◌then◌}

-- R9.7: the bytes of a word
abbrev pub ascii : String → List ℕ
ascii end_of_word = []
ascii (c then word) = code c ∷ ascii word

-- R9.7: the byte of a digit
abbrev pub digit : ℕ → ℕ
digit d = 48 + d

-- R9.7: the digits of a number below 10 ^ k, the highest first, with no zero in front but that of
-- zero itself
abbrev pub decimal_below : ℕ → ℕ → List ℕ
decimal_below zero n = []
decimal_below (suc k) n = cond (ltb n 10) (digit n ∷ []) (decimal_below k (n / 10) ++ digit (n % 10) ∷ [])

-- R9.7: a number in decimal: n is below 10 ^ suc n
unfoldable pub decimal : ℕ → List ℕ
decimal n = decimal_below (suc n) n
