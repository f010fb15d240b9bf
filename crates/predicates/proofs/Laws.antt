-- What it says that a test put together from others is true. A test comes as an equation,
-- `b ≡ true`, or as a type, `T b`. Assumes nothing.
use mathlib.Core.Path.{◌≡◌, refl, sym, ◌∙◌}
use mathlib.Core.Logic.{◌⊎◌, inl, inr, ⊎_elim, ◌↔◌}
use mathlib.Core.Bool.{Bool, true, false, ◌&&◌, ◌||◌, cond, false≢true}
use lib.Dec.{T}

-- Two constructors are never equal. Where a hypothesis says that two are, `cc` proves any equation,
-- so `impossible cc` closes the case; where the goal is an equation itself, `cc` alone does.
pub impossible {ℓ} : {A : Type ℓ} → false ≡ true → A
impossible e = absurd (false≢true e)

pub both : (p q : Bool) → (p && q) ≡ true → (p ≡ true) × (q ≡ true)
both true q h = (refl, h)
both false q h = impossible h

pub or_right : (p q : Bool) → q ≡ true → (p || q) ≡ true
or_right true q h = refl
or_right false q h = h

pub not_left : (p q : Bool) → p ≡ false → (p || q) ≡ true → q ≡ true
not_left true q e h = impossible (sym e)
not_left false q e h = h

pub left-fails : (p q : Bool) → (p && q) ≡ false → q ≡ true → p ≡ false
left-fails true q h e = impossible (sym h ∙ e)
left-fails false q h e = refl

-- what holds of both outcomes of a test holds of the choice
pub by_test : {A : Type 0} (P : A → Type 0) (b : Bool) (x y : A) → (b ≡ true → P x) → (b ≡ false → P y) → P (cond b x y)
by_test P true x y f g = f refl
by_test P false x y f g = g refl

pub and_t : (p q : Bool) → T (p && q) ↔ (T p × T q)
and_t true q = (λ t. (tt, t), λ t. t.1)
and_t false q = (λ t. absurd t, λ t. t.0)

pub or_T : (p q : Bool) → T (p || q) ↔ (T p ⊎ T q)
or_T true q = (λ t. inl tt, λ t. tt)
or_T false q = (λ t. inr t, λ t. ⊎_elim (λ x. absurd x) (λ x. x) t)

-- the same, where each part has a meaning of its own
pub or_iff : (p q : Bool) {P Q : Type 0} → T p ↔ P → T q ↔ Q → T (p || q) ↔ (P ⊎ Q)
or_iff p q f g = (
  λ t. ⊎_elim (λ x. inl (f.0 x)) (λ x. inr (g.0 x)) ((or_T p q).0 t),
  λ h. (or_T p q).1 (⊎_elim (λ x. inl (f.1 x)) (λ x. inr (g.1 x)) h),
)
