-- Words that the rules are said with: tests over the members of a list, and over the numbers below
-- a bound. Definitions only.
use Rattle.std.specs.Prelude.{ℕ, zero, suc, ◌+◌, ◌*◌, ◌^◌, Bool, true, false, ◌&&◌, List, [], ◌∷◌}
use Rattle.std.specs.List.{list_any, list_all}

-- R4.2, R10.9, R10.16: what passes a test counts one
abbrev pub bit : Bool → ℕ
bit true = 1
bit false = 0

-- R2.7, R10.5, R10.6, R10.9, R10.16, R10.17: how many of l pass the test; not std's `count_by`,
-- since the laws of the ring go by these two cases
abbrev pub count : {A : Type 0} → (A → Bool) → List A → ℕ
count test [] = 0
count test (x ∷ l) = bit (test x) + count test l

-- R4.1, R10.7, refusal 25: whether some member of l passes
abbrev pub any : {A : Type 0} → (A → Bool) → List A → Bool
any test l = list_any test l

-- R2.3, R2.5, R2.8: whether every member of l passes
abbrev pub every : {A : Type 0} → (A → Bool) → List A → Bool
every test l = list_all test l

-- R2.4, R2.5, R2.6, R2.7, R2.8, refusals 21 and 22: whether every number below n passes
abbrev pub every_below : ℕ → (ℕ → Bool) → Bool
every_below zero test = true
every_below (suc n) test = every_below n test && test n

-- R4.2: how many numbers below n pass
abbrev pub count_below : ℕ → (ℕ → Bool) → ℕ
count_below zero test = 0
count_below (suc n) test = count_below n test + bit (test n)

-- R4.2: the word whose bit u says, for each u below n, whether u passes
abbrev pub word_below : ℕ → (ℕ → Bool) → ℕ
word_below zero test = 0
word_below (suc n) test = bit (test n) * 2 ^ n + word_below n test
