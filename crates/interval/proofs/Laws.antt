-- Laws of the intervals, for any natural numbers as keys. `Between` says as facts what the test
-- says; `between_iff` and `within_iff` tie the two together, and everything else is proved of the
-- facts, by comparing keys. Assumes nothing.
use mathlib.Core.Path.{◌≡◌, sym, ◌∙◌}
use mathlib.Core.Logic.{◌⊎◌, inl, inr, ⊎_elim, ◌↔◌, ◌≢◌}
use mathlib.Core.Bool.{not, ◌&&◌, ◌||◌}
use Prim.Native.Nat.{ℕ, ◌<◌, ◌≤◌}
use native.Mathlib.Omega.{arith}
use native.Mathlib.Decide.{dec_lt, ℕ_discrete}
use native.Mathlib.Nat.{le_of_lt}
use lib.Dec.{T, ltb, eqb, ltb→lt, lt→ltb, eqb→eq, eqb_refl, T_not, not_T}
use Rattle.predicates.proofs.Laws.{and_t, or_T, or_iff}
use Rattle.interval.specs.Interval.{between, within}

-- ---- the facts
-- u lies in (a, b): between the two where a < b, else above a or below b
pub data Between (a b u : ℕ) : Type 0 where
  inside : a < u → u < b → Between a b u
  above : b ≤ a → a < u → Between a b u
  below : b ≤ a → u < b → Between a b u

-- u lies in [a, b)
abbrev pub Within : ℕ → ℕ → ℕ → Type 0
Within a b u = (u ≡ a) ⊎ Between a b u

pub data Order (a b : ℕ) : Type 0 where
  less : a < b → Order a b
  same : a ≡ b → Order a b
  more : b < a → Order a b

pub order : (a b : ℕ) → Order a b
order a b = go (dec_lt a b) (dec_lt b a)
  where
    go : Dec (a < b) → Dec (b < a) → Order a b
    go (yes h) d = less h
    go (no h) (yes k) = more k
    go (no h) (no k) = same (omega arith)

-- ---- the ends, and the whole circle
pub not_start : (a b : ℕ) → ¬ Between a b a
not_start a b (inside h k) = omega arith
not_start a b (above h k) = omega arith
not_start a b (below h k) = omega arith

pub not_end : (a b : ℕ) → ¬ Between a b b
not_end a b (inside h k) = omega arith
not_end a b (above h k) = omega arith
not_end a b (below h k) = omega arith

-- (a, a) is every key but a
pub all_but : (a u : ℕ) → Between a a u ↔ (u ≢ a)
all_but a u = (λ h e. not_start a a (rw e at h), λ n. go (order u a) n)
  where
    go : Order u a → u ≢ a → Between a a u
    go (less h) n = below (omega arith) h
    go (same h) n = absurd (n h)
    go (more h) n = above (omega arith) h

-- R3.2: [a, a) has all keys
pub within-self : (a u : ℕ) → Within a a u
within-self a u = go (order u a)
  where
    go : Order u a → Within a a u
    go (less h) = inr ((all_but a u).1 (omega arith))
    go (same h) = inl h
    go (more h) = inr ((all_but a u).1 (omega arith))

-- ---- three different keys: going right from a, u is met before b or b before u
module _ (a u b : ℕ) where
  pub not-both-met : Between a b u → ¬ Between a u b
  not-both-met (inside h k) (inside i j) = omega arith
  not-both-met (inside h k) (above i j) = omega arith
  not-both-met (inside h k) (below i j) = omega arith
  not-both-met (above h k) (inside i j) = omega arith
  not-both-met (above h k) (above i j) = omega arith
  not-both-met (above h k) (below i j) = omega arith
  not-both-met (below h k) (inside i j) = omega arith
  not-both-met (below h k) (above i j) = omega arith
  not-both-met (below h k) (below i j) = omega arith

  -- u in (a, b), and a not b: b is in (u, a)
  pub rotated : a ≢ b → Between a b u → Between u a b
  rotated n (inside h k) = above (omega arith) k
  rotated n (above h k) = below (omega arith) (omega arith)
  rotated n (below h k) = inside k (omega arith)

-- ---- u in (a, b) splits it into (a, u), u itself and (u, b)
module _ (a u b w : ℕ) where
  pub in-left-part : Between a b u → Between a u w → Between a b w
  in-left-part (inside h k) (inside i j) = inside i (omega arith)
  in-left-part (inside h k) (above i j) = absurd (omega arith)
  in-left-part (inside h k) (below i j) = absurd (omega arith)
  in-left-part (above h k) (inside i j) = above h i
  in-left-part (above h k) (above i j) = absurd (omega arith)
  in-left-part (above h k) (below i j) = absurd (omega arith)
  in-left-part (below h k) (inside i j) = absurd (omega arith)
  in-left-part (below h k) (above i j) = above h j
  in-left-part (below h k) (below i j) = below h (omega arith)

  pub in-right-part : Between a b u → Between u b w → Between a b w
  in-right-part (inside h k) (inside i j) = inside (omega arith) j
  in-right-part (inside h k) (above i j) = absurd (omega arith)
  in-right-part (inside h k) (below i j) = absurd (omega arith)
  in-right-part (above h k) (inside i j) = absurd (omega arith)
  in-right-part (above h k) (above i j) = above h (omega arith)
  in-right-part (above h k) (below i j) = below h j
  in-right-part (below h k) (inside i j) = below h j
  in-right-part (below h k) (above i j) = absurd (omega arith)
  in-right-part (below h k) (below i j) = absurd (omega arith)

  -- going right from a, u comes before any key of the right part
  u-first : Between a b u → Between u b w → Between a w u
  u-first (inside h k) (inside i j) = inside h i
  u-first (inside h k) (above i j) = absurd (omega arith)
  u-first (inside h k) (below i j) = absurd (omega arith)
  u-first (above h k) (inside i j) = absurd (omega arith)
  u-first (above h k) (above i j) = inside k j
  u-first (above h k) (below i j) = above (omega arith) k
  u-first (below h k) (inside i j) = below (omega arith) i
  u-first (below h k) (above i j) = absurd (omega arith)
  u-first (below h k) (below i j) = absurd (omega arith)

  pub parts-apart : Between a b u → Between a u w → ¬ Between u b w
  parts-apart hu l r = not-both-met a w u l (u-first hu r)

  -- where a key of (a, b) lies
  pub in-some-part : Between a b u → Between a b w → Between a u w ⊎ Within u b w
  in-some-part hu hw = go hu hw (order w u)
    where
      go : Between a b u → Between a b w → Order w u → Between a u w ⊎ Within u b w
      go (inside h k) (inside i j) (less o) = inl (inside i o)
      go (inside h k) (inside i j) (same o) = inr (inl o)
      go (inside h k) (inside i j) (more o) = inr (inr (inside o j))
      go (inside h k) (above i j) o = absurd (omega arith)
      go (inside h k) (below i j) o = absurd (omega arith)
      go (above h k) (inside i j) o = absurd (omega arith)
      go (above h k) (above i j) (less o) = inl (inside j o)
      go (above h k) (above i j) (same o) = inr (inl o)
      go (above h k) (above i j) (more o) = inr (inr (above (omega arith) o))
      go (above h k) (below i j) o = inr (inr (below (omega arith) j))
      go (below h k) (inside i j) o = absurd (omega arith)
      go (below h k) (above i j) o = inl (above (omega arith) j)
      go (below h k) (below i j) (less o) = inl (below (omega arith) o)
      go (below h k) (below i j) (same o) = inr (inl o)
      go (below h k) (below i j) (more o) = inr (inr (inside o j))

  -- [a, b) is [a, u) and [u, b), which share nothing
  pub within-split : Between a b u → Within a b w ↔ (Within a u w ⊎ Within u b w)
  within-split hu = (to, ⊎_elim from-left from-right)
    where
      to : Within a b w → Within a u w ⊎ Within u b w
      to h = ⊎_elim (λ e. inl (inl e)) (λ k. ⊎_elim (λ j. inl (inr j)) (λ j. inr j) (in-some-part hu k)) h

      from-left : Within a u w → Within a b w
      from-left h = ⊎_elim (λ e. inl e) (λ k. inr (in-left-part hu k)) h

      from-right : Within u b w → Within a b w
      from-right h = ⊎_elim (λ (e : w ≡ u). inr (rw e hu)) (λ k. inr (in-right-part hu k)) h

  pub within-apart : Between a b u → Within a u w → ¬ Within u b w
  within-apart hu l r = ⊎_elim (λ (e : w ≡ a). at_a e r) (λ k. ⊎_elim (λ (e : w ≡ u). not_end a u (rw e at k)) (λ j. parts-apart hu k j) r) l
    where
      behind : Dec (a ≡ b) → ¬ Between u b a
      behind (yes e) j = not_end u b (rw e at j)
      behind (no n) j = not-both-met u a b j (rotated a u b n hu)

      at_a : w ≡ a → ¬ Within u b w
      at_a e s = ⊎_elim (λ (d : w ≡ u). not_start a b (rw (sym d ∙ e) at hu)) (λ j. behind (ℕ_discrete a b) (rw e at j)) s

-- ---- the tests say the facts
-- each of the three clauses of R3.1, as a test and as facts
module _ (a b u : ℕ) where
  straight : T (ltb a b && (ltb a u && ltb u b)) ↔ ((a < u) × (u < b))
  straight = (
    λ t. let s = (and_t (ltb a u) (ltb u b)).0 ((and_t (ltb a b) (ltb a u && ltb u b)).0 t).1 in (ltb→lt a u s.0, ltb→lt u b s.1),
    λ h. (and_t (ltb a b) (ltb a u && ltb u b)).1 (lt→ltb a b (omega arith), (and_t (ltb a u) (ltb u b)).1 (lt→ltb a u h.0, lt→ltb u b h.1)),
  )

  wrapped : T (ltb b a && (ltb a u || ltb u b)) ↔ ((b < a) × ((a < u) ⊎ (u < b)))
  wrapped = (
    λ t. let s = (and_t (ltb b a) (ltb a u || ltb u b)).0 t in
        (ltb→lt b a s.0, ⊎_elim (λ r. inl (ltb→lt a u r)) (λ r. inr (ltb→lt u b r)) ((or_T (ltb a u) (ltb u b)).0 s.1)),
    λ h. (and_t (ltb b a) (ltb a u || ltb u b)).1
        (lt→ltb b a h.0, (or_T (ltb a u) (ltb u b)).1 (⊎_elim (λ r. inl (lt→ltb a u r)) (λ r. inr (lt→ltb u b r)) h.1)),
  )

  whole : T (eqb a b && not (eqb u a)) ↔ ((a ≡ b) × (u ≢ a))
  whole = (
    λ t. let s = (and_t (eqb a b) (not (eqb u a))).0 t in (eqb→eq a b s.0, λ e. T_not (eqb u a) s.1 (rw e (eqb_refl a))),
    λ h. (and_t (eqb a b) (not (eqb u a))).1 (rw h.0 (eqb_refl b), not_T (eqb u a) (λ t. h.1 (eqb→eq u a t))),
  )

  -- the clauses are the facts
  by-clause : ((a < u) × (u < b)) ⊎ (((b < a) × ((a < u) ⊎ (u < b))) ⊎ ((a ≡ b) × (u ≢ a))) → Between a b u
  by-clause h =
      ⊎_elim (λ i. inside i.0 i.1)
      (λ r. ⊎_elim (λ w. ⊎_elim (λ k. above (le_of_lt w.0) k) (λ k. below (le_of_lt w.0) k) w.1)
      (λ (e : (a ≡ b) × (u ≢ a)). rw (← e.0) ((all_but a u).1 e.1)) r)
      h

  to-clause : Between a b u → ((a < u) × (u < b)) ⊎ (((b < a) × ((a < u) ⊎ (u < b))) ⊎ ((a ≡ b) × (u ≢ a)))
  to-clause h = go h (order a b)
    where
      go : Between a b u → Order a b → ((a < u) × (u < b)) ⊎ (((b < a) × ((a < u) ⊎ (u < b))) ⊎ ((a ≡ b) × (u ≢ a)))
      go (inside i j) o = inl (i, j)
      go (above i j) (less o) = absurd (omega arith)
      go (above i j) (same o) = inr (inr (o, omega arith))
      go (above i j) (more o) = inr (inl (o, inl j))
      go (below i j) (less o) = absurd (omega arith)
      go (below i j) (same o) = inr (inr (o, omega arith))
      go (below i j) (more o) = inr (inl (o, inr j))

pub between_iff : (a b u : ℕ) → T (between a b u) ↔ Between a b u
unfolding between
between_iff a b u =
    let e = or_iff (ltb a b && (ltb a u && ltb u b)) ((ltb b a && (ltb a u || ltb u b)) || (eqb a b && not (eqb u a))) (straight a b u) (or_iff (ltb b a && (ltb a u || ltb u b)) (eqb a b && not (eqb u a)) (wrapped a b u) (whole a b u)) in
    (λ t. by-clause a b u (e.0 t), λ h. e.1 (to-clause a b u h))

pub within_iff : (a b u : ℕ) → T (within a b u) ↔ Within a b u
unfolding within
within_iff a b u = or_iff (eqb u a) (between a b u) (eqb→eq u a, λ (e : u ≡ a). rw e (eqb_refl a)) (between_iff a b u)
