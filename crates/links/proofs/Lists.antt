-- Lists of nodes, nothing of links: where a member stands, what holds of every member, how many
-- pass a test, ascending lists with a node more or less, and how long they can be. By induction on
-- the list, or on the numbers allowed. Assumes nothing.
use mathlib.Core.Path.{◌≡◌, refl, sym, ap}
use mathlib.Core.Logic.{◌⊎◌, inl, inr, ⊎_elim, ◌↔◌, ◌≢◌}
use mathlib.Core.Bool.{Bool, true, false}
use mathlib.Core.List.{List, [], ◌∷◌, ◌++◌}
use Prim.Native.Nat.{ℕ, zero, suc, ◌≤◌, ◌<◌}
use native.Mathlib.Omega.{arith}
use lib.ListN.{length, length-append}
use lib.Dec.{eqb}
use borrow.Author.Tests.{eq-eqb, ne_eqb, eqb-true, eqb-false}
use Rattle.predicates.specs.Tests.{count, any}
use Rattle.predicates.proofs.TestLaws.{◌∈◌, decided, bit-true, bit-false, some_in, none_in, count-append}
use Rattle.links.specs.Walk.{times}
use Rattle.links.proofs.Ring.{here, there, in-nil, in-cons, in-part, in_left, in_right, Ascending}

-- ---- members
pub cut : {s : ℕ} {l : List ℕ} → s ∈ l → (pre : List ℕ) × (post : List ℕ) × (l ≡ pre ++ s ∷ post)
cut (here {xs = xs} e) = ([], xs, ap (λ x. x ∷ xs) (sym e))
cut (there {x = x} i) = let (pre, post, e) = cut i in (x ∷ pre, post, ap (λ l. x ∷ l) e)

pub each_nil : (P : ℕ → Type 0) (x : ℕ) → x ∈ [] → P x
each_nil P x i = absurd (in-nil i)

pub each_cons : (P : ℕ → Type 0) (a : ℕ) (l : List ℕ) → P a → ((x : ℕ) → x ∈ l → P x) → (x : ℕ) → x ∈ (a ∷ l) → P x
each_cons P a l f g x i = ⊎_elim (λ (e : x ≡ a). rw e f) (g x) (in-cons i)

pub each_append : (P : ℕ → Type 0) (l m : List ℕ) → ((x : ℕ) → x ∈ l → P x) → ((x : ℕ) → x ∈ m → P x) → (x : ℕ) → x ∈ (l ++ m) → P x
each_append P l m f g x i = ⊎_elim (f x) (g x) (in-part l i)

pub swapped : (l m : List ℕ) {x : ℕ} → x ∈ (l ++ m) → x ∈ (m ++ l)
swapped l m i = ⊎_elim (in_right m) (in_left l) (in-part l i)

-- m has the members of l, and u
abbrev pub Adds : List ℕ → List ℕ → ℕ → Type 0
Adds l m u = (x : ℕ) → (x ∈ m) ↔ ((x ∈ l) ⊎ (x ≡ u))

pub adds-first : (l : List ℕ) (u : ℕ) → Adds l (u ∷ l) u
adds-first l u x = (λ i. ⊎_elim inr inl (in-cons i), ⊎_elim there here)

adds-within : (pre l m : List ℕ) (u : ℕ) → Adds l m u → Adds (pre ++ l) (pre ++ m) u
adds-within pre l m u h x = (
  λ i. ⊎_elim (λ j. inl (in_left l j)) (λ j. ⊎_elim (λ k. inl (in_right pre k)) inr ((h x).0 j)) (in-part pre i),
  ⊎_elim (λ i. ⊎_elim (in_left m) (λ j. in_right pre ((h x).1 (inl j))) (in-part pre i)) (λ e. in_right pre ((h x).1 (inr e))),
)

pub adds-between : (pre post : List ℕ) (u : ℕ) → Adds (pre ++ post) (pre ++ u ∷ post) u
adds-between pre post u = adds-within pre post (u ∷ post) u (adds-first post u)

pub adds-behind : (pre : List ℕ) (p : ℕ) (post : List ℕ) (u : ℕ) → Adds (pre ++ p ∷ post) (pre ++ p ∷ u ∷ post) u
adds-behind pre p post u = adds-within pre (p ∷ post) (p ∷ u ∷ post) u (adds-between (p ∷ []) post u)

-- ---- counts
pub count-swapped : (test : ℕ → Bool) (l m : List ℕ) → count test (l ++ m) ≡ count test (m ++ l)
count-swapped test l m = omega (arith, count-append test l m, count-append test m l)

pub never : (m : ℕ) (l : List ℕ) → ¬ (m ∈ l) → times m l ≡ 0
never m [] n = refl
never m (x ∷ l) n = omega (arith, bit-false (ne_eqb m x (λ e. n (here e))), never m l (λ i. n (there i)))

-- ---- ascending lists
module _ (key : ℕ → ℕ) where
  pub lower-differs : {a b : ℕ} → key a < key b → a ≢ b
  lower-differs h e = let k = ap key e in omega arith

  pub once : (m : ℕ) {L : List ℕ} → Ascending key L → m ∈ L → times m L ≡ 1
  once m h (here {x = a} {xs = l} e) = omega (arith, bit-true (eq-eqb m a e), never m l (λ i. lower-differs (h.0 m i) (sym e)))
  once m h (there {x = a} i) = omega (arith, bit-false (ne_eqb m a (λ e. lower-differs (h.0 m i) (sym e))), once m h.1 i)

  pub ascending-from : (pre l : List ℕ) → Ascending key (pre ++ l) → Ascending key l
  ascending-from [] l h = h
  ascending-from (a ∷ pre) l h = ascending-from pre l h.1

  pub lower-before : (pre : List ℕ) (s : ℕ) (post : List ℕ) → Ascending key (pre ++ s ∷ post) → (m : ℕ) → m ∈ pre → key m < key s
  lower-before [] s post h = each_nil (λ m. key m < key s)
  lower-before (a ∷ pre) s post h = each_cons (λ m. key m < key s) a pre (h.0 s (in_right pre (here refl))) (lower-before pre s post h.1)

  pub others-differ : (pre : List ℕ) (s : ℕ) (post : List ℕ) → Ascending key (pre ++ s ∷ post) → (m : ℕ) → m ∈ (post ++ pre) → m ≢ s
  others-differ pre s post h =
      let later : (m : ℕ) → m ∈ post → m ≢ s = λ m i e. lower-differs ((ascending-from pre (s ∷ post) h).0 m i) (sym e) in
      each_append (λ m. m ≢ s) post pre later (λ m i. lower-differs (lower-before pre s post h m i))

  pub ascending-with : (pre : List ℕ) (p : ℕ) (post : List ℕ) (u : ℕ) → Ascending key (pre ++ p ∷ post) → key p < key u
      → ((y : ℕ) → y ∈ post → key u < key y) → Ascending key (pre ++ p ∷ u ∷ post)
  ascending-with [] p post u h lo hi = (each_cons (λ y. key p < key y) u post lo h.0, (hi, h.1))
  ascending-with (a ∷ pre) p post u h lo hi =
      let k : key a < key u = omega (arith, h.0 p (in_right pre (here refl))) in
      (λ y i. ⊎_elim (h.0 y) (λ (e : y ≡ u). rw e k) ((adds-behind pre p post u y).0 i), ascending-with pre p post u h.1 lo hi)

  pub ascending-without : (pre : List ℕ) (u : ℕ) (post : List ℕ) → Ascending key (pre ++ u ∷ post) → Ascending key (pre ++ post)
  ascending-without [] u post h = h.1
  ascending-without (a ∷ pre) u post h = (λ y i. h.0 y ((adds-between pre post u y).1 (inl i)), ascending-without pre u post h.1)

  -- of nodes numbered below n there are no more than n
  pub few-below : (n : ℕ) (L : List ℕ) → Ascending key L → ((m : ℕ) → m ∈ L → m < n) → length L ≤ n
  few-below zero [] asc below = omega arith
  few-below zero (a ∷ l) asc below = absurd (omega (arith, below a (here refl)))
  few-below (suc n) L asc below = ⊎_elim (present (few-below n)) (absent (few-below n)) (decided (any (eqb n) L))
    where
      FewBelow : Type 0
      FewBelow = (l : List ℕ) → Ascending key l → ((m : ℕ) → m ∈ l → m < n) → length l ≤ n

      present : FewBelow → any (eqb n) L ≡ true → length L ≤ suc n
      present few t =
          let (x, i, same) = some_in (eqb n) L t in
          let (pre, post, e) = cut i in
          let rest : (m : ℕ) → m ∈ (pre ++ post) → m < n = λ m j. omega (
            arith,
            below m (rw e ((adds-between pre post x m).1 (inl j))),
            others-differ pre x post (rw e at asc) m (swapped pre post j),
            eqb-true n x same,
          ) in
          let shorter = few (pre ++ post) (ascending-without pre x post (rw e at asc)) rest in
          omega (arith, ap length e, length-append pre (x ∷ post), length-append pre post)

      absent : FewBelow → any (eqb n) L ≡ false → length L ≤ suc n
      absent few f = omega (arith, few L asc (λ m i. omega (arith, below m i, eqb-false n m (none_in (eqb n) f i))))
