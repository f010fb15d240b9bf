-- Laws of sequence numbers. Proofs cite these, and not the definitions' text. Assumes nothing.
use mathlib.Core.Path.{◌≡◌, refl}
use mathlib.Core.Logic.{◌⊎◌, inl, inr, ◌↔◌}
use mathlib.Core.Bool.{Bool, true, false}
use Prim.Native.Nat.{◌+◌, ◌<◌}
use native.Mathlib.Omega.{arith}
use native.Mathlib.Decide.{dec_lt}
use lib.Dec.{T, ltb, ltb→lt, lt→ltb, eqb→eq, eqb_refl}
use borrow.Author.Tests.{ltb-true, le-leb}
use Rattle.sequence.specs.Sequence.{Number, first_seq, last_seq, is_seq, next_seq, same, newer, has_next, capped_next}

-- the test of sameness is sameness
pub same_iff : (n m : Number) → T (same n m) ↔ (n ≡ m)
unfolding same
same_iff n m = (eqb→eq n m, λ (e : n ≡ m). rw e (eqb_refl m))

-- n is newer than m
abbrev pub Newer : Number → Number → Type 0
Newer n m = T (newer n m)

pub newer_irreflexive : (n : Number) → ¬ Newer n n
unfolding newer
newer_irreflexive n h = let k = ltb→lt n n h in omega arith

pub newer_transitive : (n m k : Number) → Newer n m → Newer m k → Newer n k
unfolding newer
newer_transitive n m k h j = lt→ltb k n (omega (arith, ltb→lt m n h, ltb→lt k m j))

pub newer-total : (n m : Number) → Newer n m ⊎ ((n ≡ m) ⊎ Newer m n)
unfolding newer
newer-total n m = go (dec_lt m n) (dec_lt n m)
  where
    go : Dec (m < n) → Dec (n < m) → T (ltb m n) ⊎ ((n ≡ m) ⊎ T (ltb n m))
    go (yes h) d = inl (lt→ltb m n h)
    go (no h) (yes k) = inr (inr (lt→ltb n m k))
    go (no h) (no k) = inr (inl (omega arith))

pub next-newer : (n : Number) → Newer (next_seq n) n
unfolding newer next_seq
next-newer n = lt→ltb n _ (omega arith)

-- the cap is met at the last number alone
pub capped-next : (n : Number) → has_next n ≡ true → capped_next n ≡ next_seq n
unfolding capped_next
capped-next n h = rw h

pub capped_last : (n : Number) → has_next n ≡ false → capped_next n ≡ last_seq
unfolding capped_next
capped_last n h = rw h

-- ---- none of these leads past the last number
pub first_fits : is_seq first_seq ≡ true
unfolding is_seq first_seq last_seq
first_fits = refl

pub next_fits : (n : Number) → has_next n ≡ true → is_seq (next_seq n) ≡ true
unfolding is_seq has_next next_seq
next_fits n h = le-leb (n + 1) last_seq (omega (arith, ltb-true n last_seq h))

last_fits : is_seq last_seq ≡ true
unfolding is_seq
last_fits = le-leb last_seq last_seq (omega arith)

pub capped_fits : (n : Number) → is_seq (capped_next n) ≡ true
capped_fits n = go (has_next n) refl
  where
    go : (b : Bool) → has_next n ≡ b → is_seq (capped_next n) ≡ true
    go true h = rw (capped-next n h) (next_fits n h)
    go false h = rw (capped_last n h) last_fits
