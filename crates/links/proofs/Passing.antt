-- Who owns a key before and after some links of a ring changed, for any number of members. A member
-- whose right link is as it was owns what it owned. There is one owner before and one after; so a
-- key that one node owns both times did not pass, and where, of those in both rings, only p is
-- relinked, a key that passes is p's before or after. Assumes nothing.
use mathlib.Core.Path.{◌≡◌, sym, ◌∙◌}
use mathlib.Core.Logic.{◌↔◌, ◌≢◌}
use mathlib.Core.List.{List}
use Prim.Native.Nat.{ℕ}
use native.Mathlib.Decide.{ℕ_discrete}
use Rattle.parts.specs.Tests.{Link}
use Rattle.predicates.proofs.TestLaws.{◌∈◌}
use Rattle.links.proofs.Ring.{Ring}
use Rattle.links.proofs.Circuit.{next-in}
use Rattle.links.proofs.Owner.{OwnsKey, owner}

-- u is of L, and owns d
abbrev pub Has : (ℕ → ℕ) → (ℕ → Link) → List ℕ → ℕ → ℕ → Type 0
Has key right L d u = (u ∈ L) × OwnsKey key right d u

-- ---- in one ring
module _ {key : ℕ → ℕ} {right : ℕ → Link} {L : List ℕ} (ring : Ring key right L) where
  pub has-owner : {s : ℕ} → s ∈ L → (d : ℕ) → (o : ℕ) × Has key right L d o
  has-owner i d = let o = owner ring i d in (o.node, (o.member, o.owns))

  pub owners-agree : {d a b : ℕ} → Has key right L d a → Has key right L d b → a ≡ b
  owners-agree {d} h k = let o = owner ring h.0 d in o.only _ h.0 h.1 ∙ sym (o.only _ k.0 k.1)

-- ---- from one ring to another, in which those of both have the keys that they had
abbrev pub SameKeys : (ℕ → ℕ) → (ℕ → ℕ) → List ℕ → List ℕ → Type 0
SameKeys key key' L M = (m : ℕ) → m ∈ L → m ∈ M → key' m ≡ key m

pub carried : {key key' : ℕ → ℕ} {right right' : ℕ → Link} {L M : List ℕ} → Ring key right L → Ring key' right' M → SameKeys key key' L M
    → {d m : ℕ} → m ∈ M → right' m ≡ right m → Has key right L d m → Has key' right' M d m
carried ring ring' keys {d} {m} i same (j, o) =
    let link = same ∙ o.link in
    let ends = keys o.next (next-in ring j o.link) (next-in ring' i link) in
    (i, record { next = o.next; link = link; within = rw (keys m j i, ends) o.within })

module _ {key key' : ℕ → ℕ} {right right' : ℕ → Link} {L M : List ℕ} (ring : Ring key right L) (ring' : Ring key' right' M) (keys : SameKeys key key' L M) where
  -- one node that owns d both times
  agreed : {d m : ℕ} → Has key right L d m → Has key' right' M d m → (u : ℕ) → Has key' right' M d u ↔ Has key right L d u
  agreed h h' u = (λ k. rw (owners-agree ring' k h') h, λ k. rw (owners-agree ring k h) h')

  carried-on : {d m : ℕ} → m ∈ M → right' m ≡ right m → Has key right L d m → Has key' right' M d m
  carried-on = carried ring ring' keys

  carried-back : {d m : ℕ} → m ∈ L → right' m ≡ right m → Has key' right' M d m → Has key right L d m
  carried-back i same = carried ring' ring (λ m j k. sym (keys m k j)) i (sym same)

  -- all links are as they were
  pub all-kept : ((u : ℕ) → u ∈ L → u ∈ M) → ((u : ℕ) → u ∈ M → u ∈ L) → ((u : ℕ) → u ∈ L → right' u ≡ right u)
      → (d u : ℕ) → Has key' right' M d u ↔ Has key right L d u
  all-kept to back same d u = (λ h. let i = back u h.0 in carried-back i (same u i) h, λ h. carried-on (to u h.0) (same u h.0) h)

  -- of those in both only p has another link
  module _ (p : ℕ) (others : (u : ℕ) → u ∈ L → u ∈ M → u ≢ p → right' u ≡ right u) where
    -- who owns d now was there, and who owned it is there still: d did not pass
    pub not-passed : p ∈ L → p ∈ M → {d : ℕ} → ((u : ℕ) → Has key' right' M d u → u ∈ L) → ((u : ℕ) → Has key right L d u → u ∈ M)
        → (u : ℕ) → Has key' right' M d u ↔ Has key right L d u
    not-passed was is {d} old still = go (has-owner ring was d) (has-owner ring' is d)
      where
        go : (o : ℕ) × Has key right L d o → (o : ℕ) × Has key' right' M d o → (u : ℕ) → Has key' right' M d u ↔ Has key right L d u
        go (a, h) (b, h') = by-p (ℕ_discrete a p) (ℕ_discrete b p)
          where
            by-p : Dec (a ≡ p) → Dec (b ≡ p) → (u : ℕ) → Has key' right' M d u ↔ Has key right L d u
            by-p (no n) e = agreed h (carried-on (still a h) (others a h.0 (still a h) n) h)
            by-p (yes e) (no n) = agreed (carried-back (old b h') (others b (old b h') h'.0 n) h') h'
            by-p (yes e) (yes f) = agreed (rw e at h) (rw f at h')

    -- one who was not there owns d now: p owned it
    pub from-p : p ∈ L → {d v : ℕ} → ((u : ℕ) → u ∈ L → u ∈ M) → ¬ (v ∈ L) → Has key' right' M d v → Has key right L d p
    from-p was {d} {v} stay new h' = go (has-owner ring was d)
      where
        go : (o : ℕ) × Has key right L d o → Has key right L d p
        go (a, h) = by-p (ℕ_discrete a p)
          where
            by-p : Dec (a ≡ p) → Has key right L d p
            by-p (yes e) = rw e at h
            by-p (no n) =
                let i = stay a h.0 in
                absurd (new (rw (owners-agree ring' (carried-on i (others a h.0 i n) h) h') at h.0))

-- one who is not there any more owned d: p owns it
pub to-p : {key key' : ℕ → ℕ} {right right' : ℕ → Link} {L M : List ℕ} → Ring key right L → Ring key' right' M → SameKeys key key' L M
    → (p : ℕ) → ((u : ℕ) → u ∈ L → u ∈ M → u ≢ p → right' u ≡ right u) → p ∈ M
    → {d v : ℕ} → ((u : ℕ) → u ∈ M → u ∈ L) → ¬ (v ∈ M) → Has key right L d v → Has key' right' M d p
to-p ring ring' keys p others = from-p ring' ring (λ m j k. sym (keys m k j)) p (λ u i j n. sym (others u j i n))
