-- Ascending lists: the members alone say which list it is, and a list with a member more or less is
-- ascending again. By induction on the list. Assumes nothing.
use mathlib.Core.Path.{◌≡◌, refl, sym, ap, ◌∙◌}
use mathlib.Core.Logic.{inl, inr, ⊎_elim, ◌↔◌, ◌≢◌}
use mathlib.Core.List.{List, [], ◌∷◌}
use Prim.Native.Nat.{ℕ, ◌<◌}
use native.Mathlib.Omega.{arith}
use lib.Dec.{eqb, ltb}
use borrow.Author.Tests.{eqb-true, eqb-false, ltb-true, ltb-false}
use Rattle.predicates.proofs.Laws.{by_test}
use Rattle.predicates.proofs.TestLaws.{◌∈◌}
use Rattle.links.specs.Ring.{with_member, without_member}
use Rattle.links.proofs.Ring.{here, there, in-nil, in-cons, Ascending}
use Rattle.links.proofs.Lists.{Adds, adds-first, each_cons}

-- ---- who is in it
pub members_with : (key : ℕ → ℕ) (v : ℕ) (l : List ℕ) → Adds l (with_member key v l) v
members_with key v [] = adds-first [] v
members_with key v (a ∷ l) = by_test (λ m. Adds (a ∷ l) m v) (ltb (key v) (key a)) _ _ (λ _. adds-first (a ∷ l) v) (λ _. behind (members_with key v l))
  where
    behind : {m : List ℕ} → Adds l m v → Adds (a ∷ l) (a ∷ m) v
    behind h x = (
      λ i. ⊎_elim (λ e. inl (here e)) (λ j. ⊎_elim (λ k. inl (there k)) inr ((h x).0 j)) (in-cons i),
      ⊎_elim (λ i. ⊎_elim (λ e. here e) (λ j. there ((h x).1 (inl j))) (in-cons i)) (λ e. there ((h x).1 (inr e))),
    )

pub members-without : (v : ℕ) (l : List ℕ) (x : ℕ) → (x ∈ without_member v l) ↔ ((x ∈ l) × (x ≢ v))
members-without v [] x = (λ i. absurd (in-nil i), λ t. absurd (in-nil t.0))
members-without v (a ∷ l) x =
    let later = members-without v l x in
    by_test (λ m. (x ∈ m) ↔ ((x ∈ (a ∷ l)) × (x ≢ v))) (eqb a v) _ _ (λ t. dropped later (eqb-true a v t)) (λ f. kept later (eqb-false a v f))
  where
    dropped : {m : List ℕ} → (x ∈ m) ↔ ((x ∈ l) × (x ≢ v)) → a ≡ v → (x ∈ m) ↔ ((x ∈ (a ∷ l)) × (x ≢ v))
    dropped later e = (λ i. (there (later.0 i).0, (later.0 i).1), λ t. later.1 (⊎_elim (λ d. absurd (t.1 (d ∙ e))) (λ j. j) (in-cons t.0), t.1))

    kept : {m : List ℕ} → (x ∈ m) ↔ ((x ∈ l) × (x ≢ v)) → a ≢ v → (x ∈ (a ∷ m)) ↔ ((x ∈ (a ∷ l)) × (x ≢ v))
    kept later d = (
      λ i. ⊎_elim (λ e. (here e, λ f. d (sym e ∙ f))) (λ j. (there (later.0 j).0, (later.0 j).1)) (in-cons i),
      λ t. ⊎_elim (λ e. here e) (λ j. there (later.1 (j, t.1))) (in-cons t.0),
    )

-- ---- ascending again
module _ (key : ℕ → ℕ) where
  pub ascending-inserted : (v : ℕ) (l : List ℕ) → Ascending key l → ((x : ℕ) → x ∈ l → key x ≢ key v) → Ascending key (with_member key v l)
  ascending-inserted v [] asc new = (λ b i. absurd (in-nil i), tt)
  ascending-inserted v (a ∷ l) asc new = by_test (Ascending key) (ltb (key v) (key a)) _ _
      (λ t. let lower = ltb-true (key v) (key a) t in
      (each_cons (λ b. key v < key b) a l lower (λ b i. omega (arith, asc.0 b i)), asc))
      (λ f. let higher : key a < key v = omega (arith, ltb-false (key v) (key a) f, new a (here refl)) in
      (λ b i. ⊎_elim (asc.0 b) (λ (e : b ≡ v). rw e higher) ((members_with key v l b).0 i), ascending-inserted v l asc.1 (λ x i. new x (there i))))

  pub ascending-removed : (v : ℕ) (l : List ℕ) → Ascending key l → Ascending key (without_member v l)
  ascending-removed v [] asc = tt
  ascending-removed v (a ∷ l) asc = by_test (Ascending key) (eqb a v) _ _ (λ _. ascending-removed v l asc.1)
      (λ _. (λ b i. asc.0 b ((members-without v l b).0 i).0, ascending-removed v l asc.1))

  -- ---- one list for the same members
  -- no two members have one key
  pub one-of-key : {x y : ℕ} {L : List ℕ} → Ascending key L → x ∈ L → y ∈ L → key x ≡ key y → x ≡ y
  one-of-key asc (here e) (here f) same = e ∙ sym f
  one-of-key {y} asc (here e) (there j) same = absurd (omega (arith, asc.0 y j, ap key e))
  one-of-key {x} asc (there i) (here f) same = absurd (omega (arith, asc.0 x i, ap key f))
  one-of-key asc (there i) (there j) same = one-of-key asc.1 i j same

  pub one-order : (L M : List ℕ) → Ascending key L → Ascending key M → ((x : ℕ) → (x ∈ L) ↔ (x ∈ M)) → L ≡ M
  one-order [] [] asc asc' same = refl
  one-order [] (b ∷ m) asc asc' same = absurd (in-nil ((same b).1 (here refl)))
  one-order (a ∷ l) [] asc asc' same = absurd (in-nil ((same a).0 (here refl)))
  one-order (a ∷ l) (b ∷ m) asc asc' same = let rest = one-order l m asc.1 asc'.1 later in let e = first-same in cc
    where
      first-same : a ≡ b
      first-same = ⊎_elim (λ e. e) (λ i. ⊎_elim sym (λ j. absurd (omega (arith, asc.0 b j, asc'.0 a i))) (in-cons ((same b).1 (here refl)))) (in-cons ((same a).0 (here refl)))

      later : (x : ℕ) → (x ∈ l) ↔ (x ∈ m)
      later x = (
        λ i. ⊎_elim (λ e. absurd (omega (arith, asc.0 x i, ap key (e ∙ sym first-same)))) (λ j. j) (in-cons ((same x).0 (there i))),
        λ i. ⊎_elim (λ e. absurd (omega (arith, asc'.0 x i, ap key (e ∙ first-same)))) (λ j. j) (in-cons ((same x).1 (there i))),
      )
