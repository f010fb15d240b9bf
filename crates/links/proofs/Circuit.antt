-- What holds in a ring: each member has one successor and one predecessor, both members, and the
-- walk from each goes once round. The ring is cut at a member s and read from s on, as a trail from
-- s to s; the walk follows that trail. Assumes nothing.
use Rattle.std.specs.Prelude.{Some}
use mathlib.Core.Path.{◌≡◌, refl, sym, ap, ◌∙◌}
use mathlib.Core.Logic.{◌↔◌, ◌≢◌}
use mathlib.Core.Bool.{Bool}
use mathlib.Core.List.{List, [], ◌∷◌, ◌++◌}
use Prim.Native.Nat.{ℕ, ◌≤◌}
use native.Mathlib.Omega.{arith}
use lib.ListN.{length}
use borrow.Author.Tests.{le-leb, lt-leb}
use Rattle.parts.specs.Tests.{Link}
use Rattle.predicates.specs.Tests.{count}
use Rattle.predicates.proofs.TestLaws.{◌∈◌, bit-true, bit-false}
use Rattle.links.specs.Walk.{move, walk, falls, Circuit, Predecessor}
use Rattle.links.proofs.Ring.{here, there, in-nil, in_one, Ascending, first, Trail, Ring}
use Rattle.links.proofs.Lists.{cut, each_cons, swapped, count-swapped, never, once, others-differ}
use Rattle.links.proofs.Trails.{same_end, rotate, move-to, walk-along, after-trail, trail-kept}

-- ---- making and keeping rings
pub no-ring : {key : ℕ → ℕ} {right : ℕ → Link} → Ring key right []
no-ring = record { ascending = tt; links = tt }

pub one-ring : {key : ℕ → ℕ} {right : ℕ → Link} {u : ℕ} → right u ≡ Some u → Ring key right (u ∷ [])
one-ring h = record { ascending = (λ b i. absurd (in-nil i), tt); links = (h, tt) }

pub ascending-kept : (key key' : ℕ → ℕ) (L : List ℕ) → ((m : ℕ) → m ∈ L → key' m ≡ key m) → Ascending key L → Ascending key' L
ascending-kept key key' [] same h = tt
ascending-kept key key' (a ∷ l) same h = (
  λ b i. omega (arith, h.0 b i, same a (here refl), same b (there i)),
  ascending-kept key key' l (λ m i. same m (there i)) h.1,
)

pub ring-kept : {key key' : ℕ → ℕ} {right right' : ℕ → Link} {L : List ℕ} → Ring key right L → ((m : ℕ) → m ∈ L → key' m ≡ key m)
    → ((m : ℕ) → m ∈ L → right' m ≡ right m) → Ring key' right' L
ring-kept {key} {key'} {right} {right'} {L} r keys rights = record {
  ascending = ascending-kept key key' L keys r.ascending;
  links = trail-kept right right' L (first L 0) rights r.links;
}

-- ---- a ring read from its member s on
record From (right : ℕ → Link) (L : List ℕ) (s : ℕ) : Type 0 where
  rest : List ℕ
  trail : Trail right (s ∷ rest) s
  members : (m : ℕ) → (m ∈ L) ↔ (m ∈ (s ∷ rest))
  others : (m : ℕ) → m ∈ rest → m ≢ s
  counts : (test : ℕ → Bool) → count test (s ∷ rest) ≡ count test L

from : {key : ℕ → ℕ} {right : ℕ → Link} {L : List ℕ} {s : ℕ} → Ring key right L → s ∈ L → From right L s
from {key} {right} {L} {s} r i =
    let (pre, post, e) = cut i in
    rw e
    (record {
      rest = post ++ pre;
      trail = rotate right pre (s ∷ post) (rw e at r.links);
      members = λ m. (swapped pre (s ∷ post), swapped (s ∷ post) pre);
      others = others-differ key pre s post (rw e at r.ascending);
      counts = λ test. count-swapped test (s ∷ post) pre;
    })

first_in : (s : ℕ) (l : List ℕ) → first l s ∈ (s ∷ l)
first_in s [] = here refl
first_in s (a ∷ l) = there (here refl)

-- ---- along a trail
-- one node of a trail links to its end, where the trail does not come there before
last_of : (right : ℕ → Link) (a : ℕ) (l : List ℕ) (z : ℕ) → Trail right (a ∷ l) z → ((m : ℕ) → m ∈ l → m ≢ z)
    → Predecessor right (λ m. m ∈ (a ∷ l)) z
last_of right a [] z h n = record { node = a; member = here refl; links = h.0; only = λ m i k. in_one i }
last_of right a (b ∷ l) z h n =
    let p = last_of right b l z h.1 (λ m i. n m (there i)) in
    record {
      node = p.node;
      member = there p.member;
      links = p.links;
      only = each_cons (λ m. right m ≡ Some z → m ≡ p.node) a (b ∷ l) (λ k. absurd (n b (here refl) (same_end h.0 k))) p.only;
    }

-- an ascending trail falls once, at its last node, where it ends at or below its start
falls-last : (key : ℕ → ℕ) (right : ℕ → Link) (a : ℕ) (l : List ℕ) (z : ℕ) → Ascending key (a ∷ l) → Trail right (a ∷ l) z
    → key z ≤ key a → falls key right (a ∷ l) ≡ 1
falls-last key right a [] z asc h low =
    let e = ap key (move-to right h.0) in
    omega (arith, bit-true (le-leb (key (move right a)) (key a) (omega arith)))
falls-last key right a (b ∷ l) z asc h low =
    let e = ap key (move-to right h.0) in
    let up = asc.0 b (here refl) in
    omega (
      arith,
      bit-false (lt-leb (key (move right a)) (key a) (omega arith)),
      falls-last key right b l z asc.1 h.1 (omega arith),
    )

falls-ring : {key : ℕ → ℕ} {right : ℕ → Link} (L : List ℕ) {s : ℕ} → Ring key right L → s ∈ L → falls key right L ≡ 1
falls-ring [] r i = absurd (in-nil i)
falls-ring {key} {right} (a ∷ l) r i = falls-last key right a l a r.ascending r.links (omega arith)

-- ---- in a ring
module _ {key : ℕ → ℕ} {right : ℕ → Link} {L : List ℕ} (ring : Ring key right L) where
  pub linked-in : {p : ℕ} → p ∈ L → (q : ℕ) × (right p ≡ Some q)
  linked-in {p} i = let f = from ring i in (first f.rest p, f.trail.0)

  pub next-in : {p q : ℕ} → p ∈ L → right p ≡ Some q → q ∈ L
  next-in {p} i h = let f = from ring i in (f.members _).1 (rw (same_end h f.trail.0) (first_in p f.rest))

  pub alone-in : {u : ℕ} → u ∈ L → right u ≡ Some u → (m : ℕ) → m ∈ L → m ≡ u
  alone-in {u} i h m j = let f = from ring i in go f.rest f.trail f.others ((f.members m).0 j)
    where
      go : (l : List ℕ) → Trail right (u ∷ l) u → ((x : ℕ) → x ∈ l → x ≢ u) → m ∈ (u ∷ l) → m ≡ u
      go [] t n k = in_one k
      go (b ∷ l) t n k = absurd (n b (here refl) (same_end t.0 h))

  pub predecessor : {q : ℕ} → q ∈ L → Predecessor right (λ m. m ∈ L) q
  predecessor {q} i =
      let f = from ring i in
      let p = last_of right q f.rest q f.trail f.others in
      record { node = p.node; member = (f.members _).1 p.member; links = p.links; only = λ m j. p.only m ((f.members m).0 j) }

  pub one-predecessor : {p r q : ℕ} → p ∈ L → r ∈ L → right p ≡ Some q → right r ≡ Some q → p ≡ r
  one-predecessor {p} {r} i j h k = let b = predecessor (next-in i h) in b.only p i h ∙ sym (b.only r j k)

  goes_on : (m : ℕ) → m ∈ L → right m ≡ Some (move right m)
  goes_on m i = let h = (linked-in i).1 in h ∙ ap Some (sym (move-to right h))

  -- on the round from s as many pass a test as in L
  met : {s : ℕ} (i : s ∈ L) (test : ℕ → Bool) → count test (walk right s (length (s ∷ (from ring i).rest))) ≡ count test L
  met {s} i test = let f = from ring i in ap (count test) (walk-along right (s ∷ f.rest) s f.trail) ∙ f.counts test

  pub circuit : (Member : ℕ → Type 0) → ((m : ℕ) → (m ∈ L) ↔ Member m) → (s : ℕ) → Member s → Circuit key right Member s
  circuit Member members s h =
      let i = (members s).1 h in
      let f = from ring i in
      record {
        moves = length (s ∷ f.rest);
        linked = λ m k. goes_on m ((members m).1 k);
        each_once = λ m k. met i _ ∙ once key m ring.ascending ((members m).1 k);
        no_other = λ m k. met i _ ∙ never m L (λ j. k ((members m).0 j));
        home = after-trail right (s ∷ f.rest) s f.trail;
        falls_once = met i _ ∙ falls-ring L ring i;
        lone = λ all. goes_on s i ∙ ap Some (all _ ((members _).0 (next-in i (goes_on s i))));
      }
