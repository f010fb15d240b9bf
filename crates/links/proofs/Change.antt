-- A ring with one member more, and with one less. The ring is cut where the change is made and read
-- from there on; all links but one or two are kept, and the key of a new member says where in the
-- order it stands. Assumes nothing.
use Rattle.std.specs.Prelude.{Some}
use mathlib.Core.Path.{◌≡◌, refl, sym, ap, ◌∙◌}
use mathlib.Core.Logic.{inl, ⊎_elim, ◌≢◌}
use mathlib.Core.List.{List, [], ◌∷◌, ◌++◌}
use Prim.Native.Nat.{ℕ, ◌<◌, ◌≤◌}
use native.Mathlib.Omega.{arith}
use Rattle.interval.proofs.Laws.{Between, inside, above, below}
use Rattle.parts.specs.Tests.{Link}
use Rattle.predicates.proofs.TestLaws.{◌∈◌}
use Rattle.links.proofs.Ring.{here, there, in_right, Ascending, first, Trail, Links, Ring, With, Without}
use Rattle.links.proofs.Lists.{cut, each_nil, each_cons, swapped, adds-first, adds-between, adds-behind}
use Rattle.links.proofs.Lists.{ascending-from, ascending-with, ascending-without, others-differ}
use Rattle.links.proofs.Trails.{first_append, same_end, rotate, trail-kept}
use Rattle.links.proofs.Circuit.{one-predecessor}

-- ---- one member more
first-lowest : (key : ℕ → ℕ) (L : List ℕ) (z : ℕ) → Ascending key L → (x : ℕ) → x ∈ L → key (first L z) ≤ key x
first-lowest key [] z h = each_nil (λ x. key z ≤ key x)
first-lowest key (a ∷ l) z h = each_cons (λ x. key a ≤ key x) a l (omega arith) (λ x i. omega (arith, h.0 x i))

module _ (key : ℕ → ℕ) (right right' : ℕ → Link) (p u q : ℕ) (from : right p ≡ Some q) (at_p : right' p ≡ Some u) (at-u : right' u ≡ Some q)
    (others : (m : ℕ) → m ≢ p → m ≢ u → right' m ≡ right m) where
  -- q comes behind p in the order; where p is the last, q is the first
  next : (pre post : List ℕ) → Ring key right (pre ++ p ∷ post) → q ≡ first (post ++ pre) p
  next pre post r = same_end from (rotate right pre (p ∷ post) r.links).0

  next-higher : (pre : List ℕ) (b : ℕ) (post : List ℕ) → Ring key right (pre ++ p ∷ b ∷ post)
      → (key p < key q) × ((y : ℕ) → y ∈ (b ∷ post) → key q ≤ key y)
  next-higher pre b post r =
      let high = ascending-from key pre (p ∷ b ∷ post) r.ascending in
      let e = ap key (next pre (b ∷ post) r) in
      (omega (arith, high.0 b (here refl)), λ y i. omega (arith, first-lowest key (b ∷ post) 0 high.1 y i))

  next-lowest : (pre : List ℕ) → Ring key right (pre ++ p ∷ []) → (x : ℕ) → x ∈ (pre ++ p ∷ []) → key q ≤ key x
  next-lowest pre r x i =
      let e = ap key (next pre [] r ∙ sym (first_append pre (p ∷ []) 0)) in
      omega (arith, first-lowest key (pre ++ p ∷ []) 0 r.ascending x i)

  module _ (pre post : List ℕ) (r : Ring key right (pre ++ p ∷ post)) (new : ¬ (u ∈ (pre ++ p ∷ post))) where
    -- all members but p keep their links
    rest-kept : (m : ℕ) → m ∈ (post ++ pre) → right' m ≡ right m
    rest-kept m i = others m (others-differ key pre p post r.ascending m i) (λ e. new (rw e at (swapped (p ∷ post) pre (there i))))

    -- the new ring, read from p on
    round_with : Links right' (p ∷ u ∷ post ++ pre)
    round_with =
        let round = rotate right pre (p ∷ post) r.links in
        (at_p, (at-u ∙ ap Some (next pre post r), trail-kept right right' (post ++ pre) p rest-kept round.1))

    behind-p : key p < key u → ((y : ℕ) → y ∈ post → key u < key y) → With key right' (pre ++ p ∷ post) u
    behind-p lo hi = record {
      order = pre ++ p ∷ u ∷ post;
      ring = record {
        ascending = ascending-with key pre p post u r.ascending lo hi;
        links = rotate right' (p ∷ u ∷ post) pre round_with;
      };
      members = adds-behind pre p post u;
    }

  in-front : (pre : List ℕ) → Ring key right (pre ++ p ∷ []) → ¬ (u ∈ (pre ++ p ∷ [])) → key u < key q
      → With key right' (pre ++ p ∷ []) u
  in-front pre r new lo = record {
    order = u ∷ pre ++ p ∷ [];
    ring = record {
      ascending = (λ x i. omega (arith, next-lowest pre r x i), r.ascending);
      links = rotate right' (p ∷ []) (u ∷ pre) (round_with pre [] r new);
    };
    members = adds-first (pre ++ p ∷ []) u;
  }

  put : (pre post : List ℕ) → Ring key right (pre ++ p ∷ post) → ¬ (u ∈ (pre ++ p ∷ post)) → Between (key p) (key q) (key u)
      → With key right' (pre ++ p ∷ post) u
  put pre [] r new (inside h k) = absurd (omega (arith, next-lowest pre r p (in_right pre (here refl))))
  put pre [] r new (above h k) = behind-p pre [] r new k (each_nil (λ y. key u < key y))
  put pre [] r new (below h k) = in-front pre r new k
  put pre (b ∷ post) r new (inside h k) = behind-p pre (b ∷ post) r new h (λ y i. omega (arith, (next-higher pre b post r).1 y i))
  put pre (b ∷ post) r new (above h k) = absurd (omega (arith, (next-higher pre b post r).0))
  put pre (b ∷ post) r new (below h k) = absurd (omega (arith, (next-higher pre b post r).0))

pub insert : {key : ℕ → ℕ} {right right' : ℕ → Link} {L : List ℕ} {p u q : ℕ} → Ring key right L → p ∈ L → ¬ (u ∈ L) → right p ≡ Some q
    → right' p ≡ Some u → right' u ≡ Some q → ((m : ℕ) → m ≢ p → m ≢ u → right' m ≡ right m) → Between (key p) (key q) (key u)
    → With key right' L u
insert {key} {right} {right'} {L} {p} {u} {q} r i new from at_p at-u others b =
    let (pre, post, e) = cut i in
    rw e (put key right right' p u q from at_p at-u others pre post (rw e at r) (rw e at new) b)

-- ---- one member less
module _ (key : ℕ → ℕ) (right right' : ℕ → Link) (p u q : ℕ) (from : right p ≡ Some u) (out : right u ≡ Some q) (at_p : right' p ≡ Some q)
    (others : (m : ℕ) → m ≢ p → m ≢ u → right' m ≡ right m) where
  -- a trail to u, whose last is p, leads to q now
  led_on : (l : List ℕ) → ((m : ℕ) → m ∈ l → right m ≡ Some u → m ≡ p) → ((m : ℕ) → m ∈ l → m ≢ u) → Trail right l u → Trail right' l q
  led_on [] only n h = tt
  led_on (a ∷ []) only n h = (rw (only a (here refl) h.0) at_p, tt)
  led_on (a ∷ b ∷ l) only n h = (
    others a (λ e. n b (there (here refl)) (same_end h.0 (ap right e ∙ from))) (n a (here refl)) ∙ h.0,
    led_on (b ∷ l) (λ m i. only m (there i)) (λ m i. n m (there i)) h.1,
  )

  -- u's round without u is closed again
  closed : (l : List ℕ) → Trail right (u ∷ l) u → Trail right' l q → Links right' l
  closed [] h k = tt
  closed (b ∷ l) h k = rw (same_end out h.0) at k

  take_out : (pre post : List ℕ) → Ring key right (pre ++ u ∷ post) → p ∈ (pre ++ u ∷ post) → Without key right' (pre ++ u ∷ post) u
  take_out pre post r i =
      let round = rotate right pre (u ∷ post) r.links in
      let differ = others-differ key pre u post r.ascending in
      let led = led_on (post ++ pre) (λ m j h. one-predecessor r (swapped (u ∷ post) pre (there j)) i h from) differ round.1 in
      let adds = adds-between pre post u in
      record {
        order = pre ++ post;
        ring = record {
          ascending = ascending-without key pre u post r.ascending;
          links = rotate right' post pre (closed (post ++ pre) round led);
        };
        members = λ m. (
          λ j. ((adds m).1 (inl j), differ m (swapped pre post j)),
          λ t. ⊎_elim (λ j. j) (λ e. absurd (t.1 e)) ((adds m).0 t.0),
        );
      }

pub remove : {key : ℕ → ℕ} {right right' : ℕ → Link} {L : List ℕ} {p u q : ℕ} → Ring key right L → p ∈ L → u ∈ L → right p ≡ Some u
    → right u ≡ Some q → right' p ≡ Some q → ((m : ℕ) → m ≢ p → m ≢ u → right' m ≡ right m) → Without key right' L u
remove {key} {right} {right'} {L} {p} {u} {q} r i j from out at_p others =
    let (pre, post, e) = cut j in
    rw e (take_out key right right' p u q from out at_p others pre post (rw e at r) (rw e at i))
