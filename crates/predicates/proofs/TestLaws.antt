-- What the tests over a list, and over the numbers below a bound, say of each member, and what they
-- give for a list put together from parts: by going through the list. Assumes nothing.
use mathlib.Core.Path.{◌≡◌, refl, sym, ap, ◌∙◌}
use mathlib.Core.Logic.{◌⊎◌, inl, inr, ⊎_elim}
use mathlib.Core.Bool.{Bool, true, false, ◌&&◌, ◌||◌, and_assoc, and-true, and-false, cond}
use mathlib.Core.List.Memᴰ.{head as here}
use mathlib.Core.List.Memᴰ.{tail as there}
use mathlib.Core.List.{List, [], ◌∷◌, ◌++◌, Memᴰ}
use Prim.Native.Nat.{ℕ, zero, suc, ◌+◌, ◌≤◌, ◌<◌}
use native.Mathlib.Omega.{arith}
use native.Mathlib.Decide.{ℕ_discrete}
use lib.Dec.{T}
use lib.ListN.{length, take, drop, get_or, take-append-drop}
use lib.Seq.{take-suc}
use Rattle.std.specs.List.{count_by}
use Rattle.std.proofs.lemmas.List.Recursion.{is_count_by}
use Rattle.predicates.specs.Tests.{bit, count, any, every, every_below}
use Rattle.predicates.proofs.Laws.{impossible, both, or_right}

-- x is one of l
infix 4 ◌∈◌
abbrev pub ◌∈◌ : {A : Type 0} → A → List A → Type 0
x ∈ l = Memᴰ x l

-- ---- one test
pub decided : (b : Bool) → (b ≡ true) ⊎ (b ≡ false)
decided true = inl refl
decided false = inr refl

pub holds : {b : Bool} → b ≡ true → T b
holds e = rw e tt

pub is_true : (b : Bool) → T b → b ≡ true
is_true true t = refl
is_true false t = absurd t

pub not-both : {b : Bool} → b ≡ true → b ≡ false → ⊥
not-both e f = impossible (rw f at e)

pub bit-true : {b : Bool} → b ≡ true → bit b ≡ 1
bit-true e = rw e

pub bit-false : {b : Bool} → b ≡ false → bit b ≡ 0
bit-false e = rw e

-- ---- the members of a list
module _ {A : Type 0} (test : A → Bool) where
  pub any-in : {x : A} {l : List A} → x ∈ l → test x ≡ true → any test l ≡ true
  any-in (here {xs = l} e) t = rw (← e, t)
  any-in (there {x = y} {xs = l} i) t = or_right (test y) (any test l) (any-in i t)

  pub none_in : {x : A} {l : List A} → any test l ≡ false → x ∈ l → test x ≡ false
  none_in {x} n i = ⊎_elim (λ t. absurd (not-both (any-in i t) n)) (λ f. f) (decided (test x))

  pub some_in : (l : List A) → any test l ≡ true → (x : A) × (x ∈ l) × (test x ≡ true)
  some_in [] t = impossible t
  some_in (x ∷ l) t = go (test x) refl t (some_in l)
    where
      go : (b : Bool) → test x ≡ b → (b || any test l) ≡ true → (any test l ≡ true → (y : A) × (y ∈ l) × (test y ≡ true)) → (y : A) × (y ∈ (x ∷ l)) × (test y ≡ true)
      go true e t later = (x, here refl, e)
      go false e t later = let (y, i, f) = later t in (y, there i, f)

  pub not-any : (l : List A) → ((x : A) → x ∈ l → test x ≡ false) → any test l ≡ false
  not-any [] f = refl
  not-any (x ∷ l) f = rw (f x (here refl)) (not-any l (λ y i. f y (there i)))

  pub every_in : {x : A} {l : List A} → every test l ≡ true → x ∈ l → test x ≡ true
  every_in h (here {x = y} {xs = l} e) = ap test e ∙ (both (test y) (every test l) h).0
  every_in h (there {x = y} {xs = l} i) = every_in (both (test y) (every test l) h).1 i

  pub all_pass : (l : List A) → ((x : A) → x ∈ l → test x ≡ true) → every test l ≡ true
  all_pass [] f = refl
  all_pass (x ∷ l) f = rw (f x (here refl)) (all_pass l (λ y i. f y (there i)))

  pub count-append : (l m : List A) → count test (l ++ m) ≡ count test l + count test m
  count-append [] m = omega arith
  count-append (x ∷ l) m = omega (arith, count-append l m)

  pub count-in : {x : A} {l : List A} → x ∈ l → test x ≡ true → 1 ≤ count test l
  count-in (here {x = y} e) t = omega (arith, bit-true (rw e at t))
  count-in (there i) t = omega (arith, count-in i t)

  pub none-counted : {x : A} {l : List A} → count test l ≡ 0 → x ∈ l → test x ≡ false
  none-counted {x} n i = ⊎_elim (λ t. absurd (omega (arith, count-in i t))) (λ f. f) (decided (test x))

-- ---- a list put together, and its beginnings
module _ {A : Type 0} (test : A → Bool) where
  pub every_append : (l m : List A) → every test (l ++ m) ≡ (every test l && every test m)
  every_append [] m = refl
  every_append (x ∷ l) m = rw (every_append l m, and_assoc)

  -- one member more
  pub every_take : (l : List A) (i : ℕ) (d : A) → i < length l → every test (take (suc i) l) ≡ (every test (take i l) && test (get_or l i d))
  every_take l i d k = rw (take-suc l i d k, every_append, and-true)

  pub count-take : (l : List A) (i : ℕ) (d : A) → i < length l → count test (take (suc i) l) ≡ count test (take i l) + bit (test (get_or l i d))
  count-take l i d k = rw (take-suc l i d k, count-append test) (omega arith)

  -- a beginning has no more that pass
  pub count-more : (l : List A) (i : ℕ) → count test (take i l) ≤ count test l
  count-more l i = omega (arith, count-append test (take i l) (drop i l), ap (count test) (take-append-drop i l))

-- ---- the numbers below a bound
pub below_at : (n : ℕ) (test : ℕ → Bool) → every_below n test ≡ true → (i : ℕ) → i < n → test i ≡ true
below_at zero test h i k = absurd (omega arith)
below_at (suc n) test h i k =
    let (f, g) = both (every_below n test) (test n) h in
    go g (below_at n test f i) (ℕ_discrete i n)
  where
    go : test n ≡ true → (i < n → test i ≡ true) → Dec (i ≡ n) → test i ≡ true
    go g before (yes e) = rw e g
    go g before (no d) = before (omega arith)

pub below_all : (n : ℕ) (test : ℕ → Bool) → ((i : ℕ) → i < n → test i ≡ true) → every_below n test ≡ true
below_all zero test f = refl
below_all (suc n) test f = rw (below_all n test (λ i k. f i (omega arith))) (f n (omega arith))

pub below_fails : (n : ℕ) (test : ℕ → Bool) (i : ℕ) → i < n → test i ≡ false → every_below n test ≡ false
below_fails n test i k f = ⊎_elim (λ h. absurd (not-both (below_at n test h i k) f)) (λ e. e) (decided (every_below n test))

pub below_agree : (n : ℕ) (f g : ℕ → Bool) → ((i : ℕ) → i < n → f i ≡ g i) → every_below n f ≡ every_below n g
below_agree zero f g same = refl
below_agree (suc n) f g same = rw (same n (omega arith), below_agree n f g (λ i k. same i (omega arith)))

and_regroup : (p q r s : Bool) → ((p && q) && (r && s)) ≡ ((p && r) && (q && s))
and_regroup true true r s = refl
and_regroup true false r s = sym (and-false r)
and_regroup false q r s = refl

pub below_both : (n : ℕ) (f g : ℕ → Bool) → every_below n (λ i. f i && g i) ≡ (every_below n f && every_below n g)
below_both zero f g = refl
below_both (suc n) f g = rw (below_both n f g) (and_regroup (every_below n f) (every_below n g) (f n) (g n))

-- std's word for the same count
pub count_is_count_by : {A : Type 0} (test : A → Bool) (l : List A) → count test l ≡ count_by test l
count_is_count_by test = is_count_by (count test) test refl (λ x l. counted (test x) (count test l))
  where
    counted : (b : Bool) (n : ℕ) → bit b + n ≡ cond b (1 + n) n
    counted true n = refl
    counted false n = omega arith
