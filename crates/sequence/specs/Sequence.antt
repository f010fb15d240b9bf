-- R1.2, sequence numbers (paper 01: left and right numbers). They are made, compared and advanced
-- by these definitions alone; what follows from them is in `proofs/Laws.antt`. Definitions only.
use Rattle.std.specs.Prelude.{ℕ, ◌+◌, Bool, cond, ltb, leb, eqb}

-- R1.2: a sequence number; that it fits its field is `is_seq`
abbrev pub Number : Type 0
Number = ℕ

-- R1.2: the first number
unfoldable pub first_seq : Number
first_seq = 0

-- R1.2: the last number
unfoldable pub last_seq : Number
last_seq = 65_535

-- R2.8: a number that a field can hold
unfoldable pub is_seq : Number → Bool
is_seq n = leb n last_seq

-- R1.2: the next is one more; it is asked only of numbers that have one
unfoldable pub next_seq : Number → Number
next_seq n = n + 1

-- R1.2: two are the same number
unfoldable pub same : Number → Number → Bool
same n m = eqb n m

-- R1.2: the greater number is the newer
unfoldable pub newer : Number → Number → Bool
newer n m = ltb m n

-- R1.2: every number but the last has a next
unfoldable pub has_next : Number → Bool
has_next n = ltb n last_seq

-- R1.2: the next, where the last stands for its own
unfoldable pub capped_next : Number → Number
capped_next n = cond (has_next n) (next_seq n) last_seq
