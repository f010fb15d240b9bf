-- Which member of a ring owns a key d: the one with d in its interval, from its own key up to the
-- key of its right link. The ring is read as an ascending trail, which each of its nodes cuts into
-- two intervals that share nothing: so one member owns d and no other does. The walk from any
-- member meets it before it comes home. Assumes nothing.
use Rattle.std.specs.Prelude.{Some}
use mathlib.Core.Path.{◌≡◌, refl, sym, ap, ◌∙◌}
use mathlib.Core.Logic.{inl, inr, ⊎_elim}
use mathlib.Core.List.{List, [], ◌∷◌, ◌++◌}
use Prim.Native.Nat.{ℕ, suc, ◌≤◌, ◌<◌}
use native.Mathlib.Omega.{arith}
use lib.ListN.{length, length-append}
use Rattle.interval.proofs.Laws.{Between, above, Within, within-self, within-split, within-apart}
use Rattle.parts.specs.Tests.{Link}
use Rattle.predicates.proofs.TestLaws.{◌∈◌}
use Rattle.links.specs.Walk.{after}
use Rattle.links.proofs.Ring.{here, there, in-nil, in_one, in-cons, Ascending, Trail, Ring}
use Rattle.links.proofs.Lists.{cut, each_cons, swapped}
use Rattle.links.proofs.Trails.{same_end, rotate, move-to}

-- ---- who owns a key
-- d is in [key of m, key of its right link)
pub record OwnsKey (key : ℕ → ℕ) (right : ℕ → Link) (d m : ℕ) : Type 0 where
  pub next : ℕ
  pub link : right m ≡ Some next
  pub within : Within (key m) (key next) d

-- the one of l that owns d
pub record KeyOwner (key : ℕ → ℕ) (right : ℕ → Link) (d : ℕ) (l : List ℕ) : Type 0 where
  pub node : ℕ
  pub member : node ∈ l
  pub owns : OwnsKey key right d node
  pub only : (m : ℕ) → m ∈ l → OwnsKey key right d m → m ≡ node

module _ (key : ℕ → ℕ) (right : ℕ → Link) (d : ℕ) where
  owned-up-to : {a b : ℕ} → right a ≡ Some b → OwnsKey key right d a → Within (key a) (key b) d
  owned-up-to h o = rw (same_end o.link h) at o.within

  -- an ascending trail that ends at or below its start: its second node lies between the two
  second-between : {a b : ℕ} {l : List ℕ} {z : ℕ} → Ascending key (a ∷ b ∷ l) → key z ≤ key a → Between (key a) (key z) (key b)
  second-between {b} asc low = above low (asc.0 b (here refl))

  -- what one of its nodes owns lies between its start and its end
  owned-within : (a : ℕ) (l : List ℕ) (z : ℕ) → Ascending key (a ∷ l) → Trail right (a ∷ l) z → key z ≤ key a
      → (m : ℕ) → m ∈ (a ∷ l) → OwnsKey key right d m → Within (key a) (key z) d
  owned-within a [] z asc h low = λ m i o. owned-up-to h.0 (rw (in_one i) at o)
  owned-within a (b ∷ l) z asc h low =
      let parts = within-split (key a) (key b) (key z) d (second-between asc low) in
      each_cons (λ m. OwnsKey key right d m → Within (key a) (key z) d) a (b ∷ l)
      (λ o. parts.1 (inl (owned-up-to h.0 o)))
      (λ m i o. parts.1 (inr (owned-within b l z asc.1 h.1 (omega (arith, asc.0 b (here refl))) m i o)))

  -- and what lies there, one of its nodes owns
  owner-on : (a : ℕ) (l : List ℕ) (z : ℕ) → Ascending key (a ∷ l) → Trail right (a ∷ l) z → key z ≤ key a → Within (key a) (key z) d
      → KeyOwner key right d (a ∷ l)
  owner-on a [] z asc h low w = record { node = a; member = here refl; owns = record { next = z; link = h.0; within = w }; only = λ m i o. in_one i }
  owner-on a (b ∷ l) z asc h low w =
      ⊎_elim first-owns (λ k. later k (owner-on b l z asc.1 h.1 lower k)) ((within-split (key a) (key b) (key z) d between).0 w)
    where
      lower : key z ≤ key b
      lower = omega (arith, asc.0 b (here refl))

      between : Between (key a) (key z) (key b)
      between = second-between asc low

      first-owns : Within (key a) (key b) d → KeyOwner key right d (a ∷ b ∷ l)
      first-owns k = record {
        node = a;
        member = here refl;
        owns = record { next = b; link = h.0; within = k };
        only = each_cons (λ m. OwnsKey key right d m → m ≡ a) a (b ∷ l) (λ o. refl)
            (λ m i o. absurd (within-apart (key a) (key b) (key z) d between k (owned-within b l z asc.1 h.1 lower m i o)));
      }

      later : Within (key b) (key z) d → KeyOwner key right d (b ∷ l) → KeyOwner key right d (a ∷ b ∷ l)
      later k o = record {
        node = o.node;
        member = there o.member;
        owns = o.owns;
        only = each_cons (λ m. OwnsKey key right d m → m ≡ o.node) a (b ∷ l)
            (λ p. absurd (within-apart (key a) (key b) (key z) d between (owned-up-to h.0 p) k)) o.only;
      }

-- ---- the walk from a to a node of its trail
along : (right : ℕ → Link) (a : ℕ) (l : List ℕ) (z : ℕ) → Trail right (a ∷ l) z → (m : ℕ) → m ∈ (a ∷ l)
    → (k : ℕ) × (k < length (a ∷ l)) × (after right a k ≡ m)
along right a [] z h m i = (0, omega arith, sym (in_one i))
along right a (b ∷ l) z h m i = ⊎_elim (λ e. (0, omega arith, sym e)) (λ j. further (along right b l z h.1 m j)) (in-cons i)
  where
    further : (k : ℕ) × (k < length (b ∷ l)) × (after right b k ≡ m) → (k : ℕ) × (k < length (a ∷ b ∷ l)) × (after right a k ≡ m)
    further (k, few, e) = (suc k, omega arith, ap (λ x. after right x k) (move-to right h.0) ∙ e)

-- ---- in a ring
module _ {key : ℕ → ℕ} {right : ℕ → Link} {L : List ℕ} (ring : Ring key right L) where
  -- every key has an owner, and only one
  pub owner : {s : ℕ} → s ∈ L → (d : ℕ) → KeyOwner key right d L
  owner i d = go L ring i
    where
      go : (l : List ℕ) → Ring key right l → {s : ℕ} → s ∈ l → KeyOwner key right d l
      go [] r j = absurd (in-nil j)
      go (a ∷ l) r j = owner-on key right d a l a r.ascending r.links (omega arith) (within-self (key a) d)

  -- from each member the walk leads to each, in fewer moves than there are members
  pub reaches : {s m : ℕ} → s ∈ L → m ∈ L → (k : ℕ) × (k < length L) × (after right s k ≡ m)
  reaches {s} {m} i j =
      let (pre, post, e) = cut i in
      let (k, few, met) = along right s (post ++ pre) s (rotate right pre (s ∷ post) (rw e at ring.links)) m (swapped pre (s ∷ post) (rw e at j)) in
      (k, omega (arith, few, ap length e, length-append pre (s ∷ post), length-append post pre), met)
