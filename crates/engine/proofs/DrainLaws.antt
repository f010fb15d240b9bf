-- A drain step by step: what is still to be delivered leads where the whole drain leads, and with
-- what was made it counts as many. Each delivery at the lowest place keeps that, and where the
-- drain does not go on it is finished. Assumes nothing.
use mathlib.Core.Path.{◌≡◌, refl, sym, ap, ◌∙◌}
use mathlib.Core.Logic.{⊎_elim, ◌≢◌}
use mathlib.Core.Bool.{Bool, true, false, cond, ◌||◌}
use mathlib.Core.List.{List, [], ◌∷◌}
use Rattle.std.specs.Prelude.{None, Some, unwrap_or}
use Prim.Native.Nat.{ℕ, zero, suc, ◌+◌, ◌*◌, ◌-◌, ◌^◌, ◌≤◌, ◌<◌}
use native.Mathlib.Omega.{arith}
use lib.ListN.{length, length-append, length-replicate}
use lib.Dec.{eqb, ltb}
use borrow.Author.Tests.{lt-ltb, ltb-true, ltb-false, eqb-true, eqb-false}
use Rattle.predicates.proofs.Laws.{impossible, both}
use Rattle.predicates.proofs.TestLaws.{decided, holds, is_true, bit-true}
use Rattle.refusal.specs.Rules.{done, first}
use Rattle.node.specs.Shape.{capacity}
use Rattle.protocol.specs.declared.Call.TheVariants.{Deliver}
use Rattle.protocol.specs.declared.Reply.TheVariants.{Ran}
use Rattle.protocol.specs.State.{State, queue_limit, load, well_formed as lists_are_well_formed}
use Rattle.protocol.specs.Calls.{deliver_rules, apply_of as apply_to_lists}
use Rattle.protocol.specs.Drain.{lowest_from, lowest, after_delivery, places_within, allowed, places, deliver_all, posts_of_all, drain_of as drain_lists}
use Rattle.protocol.proofs.Facts.{well-formed as lists-well-formed}
use Rattle.protocol.proofs.Lively.{lowers, steady}
use Rattle.protocol.proofs.Cases.{accepted_case}
use Rattle.protocol.proofs.Refusals.{accepted-said}
use Rattle.protocol.proofs.Drains.{can_deliver, lowest-at, finds-lowest, load-of-all, places-none, places-next}
use Rattle.protocol.proofs.Posted.{few-posts}
use Rattle.network.specs.declared.Network.{Network}
use Rattle.network.specs.Arrays.{vacant_node, vacant_message, live, well_formed, filled, held}
use Rattle.network.proofs.Lengths.{Lengths}
use Rattle.network.proofs.ArrayLaws.{well-formed, live-held, held_well_formed}
use Rattle.network.proofs.LiveLaws.{messages-length}
use Rattle.report.specs.Going.{goes_on}
use Rattle.engine.specs.Outcomes.{Counted, counted, in_arrays, apply_of, drain_of}
use Rattle.engine.specs.Computed.{next_delivery}
use Rattle.ruling.specs.Places.{lowest_place_from, lowest_place}
use Rattle.engine.proofs.CallLaws.{same, delivers-here}

-- ---- the arrays that hold well-formed lists
filled-length : {A : Type 0} (n : ℕ) (vacant : A) (l : List A) → length l ≤ n → length (filled n vacant l) ≡ n
filled-length n vacant l few = simp (length-append, length-replicate) (omega arith)

held-lengths : (s : State) → lists_are_well_formed s ≡ true → Lengths (held s)
held-lengths s h =
    let w = lists-well-formed s h in
    record { nodes = filled-length capacity vacant_node s.nodes w.few_nodes; messages = filled-length queue_limit vacant_message s.messages w.few_messages }

-- ---- where a delivery is to be had
-- while the queue is not full no delivery is refused, and so none at the first place
pub first-is-lowest : (n : Network) (l : Lengths n) (h : well_formed n ≡ true) → 0 < n.waiting → n.waiting < queue_limit → lowest (live n) ≡ Some 0
unfolding apply_to_lists
first-is-lowest n l h waits few =
    let all = messages-length n l h in
    let room : ltb (length (live n).messages) queue_limit ≡ true = lt-ltb (length (live n).messages) queue_limit (omega (arith, all)) in
    let present : ltb 0 (length (live n).messages) ≡ true = lt-ltb 0 (length (live n).messages) (omega (arith, all)) in
    let clear : first (deliver_rules (live n) 0) ≡ None = simp ((well-formed n h).lists, room, present) in
    lowest-at (live n) 0 (omega (arith, all)) (λ q k. absurd (omega arith)) (rw clear (is_true _ (accepted-said (accepted_case (live n) (Deliver 0) clear))))

-- where a message waits the search for the lowest place ends at one
next_place : (n : Network) → Lengths n → well_formed n ≡ true → 0 < n.waiting
    → (lowest (live n) ≡ Some (unwrap_or (lowest (live n)) 0)) × (can_deliver (live n) (unwrap_or (lowest (live n)) 0) ≡ true)
next_place n l h waits =
    let (place, e, can) = finds-lowest (live n) (holds (well-formed n h).lists) (omega (arith, messages-length n l h)) in
    let there : unwrap_or (lowest (live n)) 0 ≡ place = rw e in
    (e ∙ ap Some (sym there), ap (can_deliver (live n)) there ∙ can)

-- the code looks for that place
module _ (n : Network) (l : Lengths n) (h : well_formed n ≡ true) where
  same-search : (place k : ℕ) → place + k ≤ n.waiting → lowest_from (live n) place k ≡ lowest_place_from n place k
  same-search place zero inside = refl
  same-search place (suc k) inside =
      ap (cond (can_deliver (live n) place) (Some place)) (same-search (suc place) k (omega arith))
      ∙ ap (λ b. cond b (Some place) (lowest_place_from n (suc place) k)) (sym (delivers-here n l h place (omega arith)))

  pub lowest-is : lowest (live n) ≡ lowest_place n
  lowest-is = ap (lowest_from (live n) 0) (messages-length n l h) ∙ same-search 0 n.waiting (omega arith)

-- ---- how many deliveries a drain may make
neither : (p q : Bool) → (p || q) ≡ false → (p ≡ false) × (q ≡ false)
neither true q e = impossible (sym e)
neither false q e = (refl, e)

-- a budget that is not 0 allows as many as it says
allowed-of : (budget : ℕ) (s : State) → budget ≢ 0 → allowed budget s ≡ budget
allowed-of zero s some = absurd (some refl)
allowed-of (suc budget) s some = refl

-- and 0 no more than two bytes can count
few-allowed : (budget : ℕ) (n : Network) → well_formed n ≡ true → budget < 2 ^ 16 → allowed budget (live n) ≤ 65_535
few-allowed zero n h small = omega (arith, (load-of-all (live n).messages).1, (lists-well-formed (live n) (well-formed n h).lists).few_messages)
few-allowed (suc budget) n h small = omega arith

-- ---- a drain that has made some of its deliveries
-- the places of those that it may still make
abbrev pub still : (start : Network) (budget : ℕ) (n : Network) (made : ℕ) → List ℕ
still start budget n made = places_within (allowed budget (live start) - made) (live n)

pub record Underway (start : Network) (budget : ℕ) (n : Network) (made posted : ℕ) : Type 0 where
  pub arrays : Lengths n
  pub well_formed : well_formed n ≡ true
  pub spent : made ≤ allowed budget (live start)
  pub lowered : load (live n).messages + made ≤ load (live start).messages
  pub few : posted ≤ 2 * made
  pub ends : deliver_all (live n) (still start budget n made) ≡ deliver_all (live start) (places budget (live start))
  pub counts : made + length (still start budget n made) ≡ length (places budget (live start))
  pub posts : posted + length (posts_of_all (live n) (still start budget n made)) ≡ length (posts_of_all (live start) (places budget (live start)))

pub begins : (n : Network) (budget : ℕ) → Lengths n → well_formed n ≡ true → Underway n budget n 0 0
begins n budget l h =
    let all : allowed budget (live n) - 0 ≡ allowed budget (live n) = omega arith in
    record { arrays = l; well_formed = h; spent = omega arith; lowered = omega arith; few = omega arith; ends = rw all; counts = rw all (omega arith); posts = rw all (omega arith) }

module _ {start : Network} {budget : ℕ} {n : Network} {made posted : ℕ} (u : Underway start budget n made posted) where
  abbrev most : ℕ
  most = allowed budget (live start)

  -- a message that waits counts in the load, so that a budget of 0 allows one delivery more
  module _ (goes : goes_on budget made n.waiting ≡ true) where
    waits : 0 < n.waiting
    waits = ltb-true 0 n.waiting (both (eqb budget 0 || ltb made budget) _ goes).1

    pub not-spent : made < most
    not-spent = ⊎_elim of-any of-some (decided (eqb budget 0))
      where
        of-any : eqb budget 0 ≡ true → made < most
        of-any t = let none : budget ≡ 0 = eqb-true budget 0 t in
            rw none (omega (arith, u.lowered, (load-of-all (live n).messages).0, messages-length n u.arrays u.well_formed, waits))

        of-some : eqb budget 0 ≡ false → made < most
        of-some f = let left : ltb made budget ≡ true = rw f at (both (eqb budget 0 || ltb made budget) _ goes).0 in
            rw (allowed-of budget (live start) (eqb-false budget 0 f)) (ltb-true made budget left)

  -- one delivery more, which is of a few messages
  module _ (place : ℕ) (x : Counted) (goes : goes_on budget made n.waiting ≡ true) (at : lowest (live n) ≡ Some place) (can : can_deliver (live n) place ≡ true) (e : x ≡ counted (apply_of n (Deliver place))) where
    next : State
    next = after_delivery (live n) place

    kept : lists_are_well_formed next ≡ true
    unfolding next
    kept = is_true _ ((steady (live n) (holds (well-formed n u.well_formed).lists)).kept (Deliver place))

    came : (x.network ≡ held next) × (x.posted ≡ length (apply_to_lists (live n) (Deliver place)).posts)
    unfolding apply_of next
    came = let f : x ≡ counted (in_arrays (apply_to_lists (live n) (Deliver place))) = e ∙ rw u.well_formed in (ap (λ (y : Counted). y.network) f, ap (λ (y : Counted). y.posted) f)

    two : x.posted ≤ 2
    two = omega (arith, came.1, few-posts (live n) (Deliver place))

    pub one-more : Underway start budget x.network (made + 1) (posted + x.posted)
    unfolding next
    one-more =
        let left = not-spent goes in
        let sent = (apply_to_lists (live n) (Deliver place)).posts in
        let lists : live x.network ≡ next = ap live came.0 ∙ live-held next in
        let one : most - made ≡ suc (most - (made + 1)) = omega arith in
        let head : places_within (most - made) (live n) ≡ place ∷ places_within (most - (made + 1)) next =
        ap (λ k. places_within k (live n)) one ∙ places-next (most - (made + 1)) (live n) place at in
        record {
          arrays = rw came.0 (held-lengths next kept);
          well_formed = rw came.0 (held_well_formed next kept);
          spent = omega arith;
          lowered = omega (arith, ap (λ (s : State). load s.messages) lists, u.lowered, lowers (live n) place, bit-true can);
          few = omega (arith, two, u.few);
          ends = rw lists (ap (deliver_all (live n)) (sym head) ∙ u.ends);
          counts = rw lists (omega (arith, u.counts, ap length head));
          posts = rw lists (omega (arith, u.posts, ap (λ l. length (posts_of_all (live n) l)) head, came.1, length-append sent (posts_of_all next (places_within (most - (made + 1)) next))));
        }

    pub tally-fits : most ≤ 65_535 → (made < 65_535) × (posted + x.posted < 4_294_967_296)
    tally-fits small = let left = not-spent goes in (omega (arith, left), omega (arith, left, two, u.few))

  -- the next delivery, and what it comes to
  module _ (x : Counted) (goes : goes_on budget made n.waiting ≡ true) (e : x ≡ counted (next_delivery n)) where
    abbrev place : ℕ
    place = unwrap_or (lowest (live n)) 0

    there : (lowest (live n) ≡ Some place) × (can_deliver (live n) place ≡ true)
    there = next_place n u.arrays u.well_formed (waits goes)

    pub next_fits : well_formed start ≡ true → budget < 2 ^ 16 → (made < 65_535) × (posted + x.posted < 4_294_967_296)
    next_fits h small = tally-fits place x goes there.0 there.1 e (few-allowed budget start h small)

    pub next-goes-on : Underway start budget x.network (made + 1) (posted + x.posted)
    next-goes-on = one-more place x goes there.0 there.1 e

  -- nothing more to be delivered
  finished : well_formed start ≡ true → still start budget n made ≡ []
      → record { network = n; posted = posted; said = done (Ran made n.waiting) } ≡ counted (drain_of start budget)
  unfolding drain_of drain_lists
  finished h none_left =
      let end : live n ≡ deliver_all (live start) (places budget (live start)) = ap (deliver_all (live n)) (sym none_left) ∙ u.ends in
      let all : made ≡ length (places budget (live start)) = omega (arith, u.counts, ap length none_left) in
      let network : n ≡ held (deliver_all (live start) (places budget (live start))) = sym (same n u.arrays u.well_formed) ∙ ap held end in
      let left : n.waiting ≡ length (deliver_all (live start) (places budget (live start))).messages =
      sym (messages-length n u.arrays u.well_formed) ∙ ap (λ (s : State). length s.messages) end in
      let sent : posted ≡ length (posts_of_all (live start) (places budget (live start))) = omega (arith, u.posts, ap (λ l. length (posts_of_all (live n) l)) none_left) in
      rw (h, (well-formed start h).lists) (λ i. record { network = network i; posted = sent i; said = done (Ran (all i) (left i)) })

  pub stops : well_formed start ≡ true → goes_on budget made n.waiting ≡ false
      → record { network = n; posted = posted; said = done (Ran made n.waiting) } ≡ counted (drain_of start budget)
  stops h over = finished h (⊎_elim none-wait none_left (decided (eqb budget 0 || ltb made budget)))
    where
      none-wait : (eqb budget 0 || ltb made budget) ≡ true → still start budget n made ≡ []
      none-wait t =
          let empty : n.waiting ≤ 0 = ltb-false 0 n.waiting (rw t at over) in
          places-none (most - made) (live n) (messages-length n u.arrays u.well_formed ∙ omega arith)

      none_left : (eqb budget 0 || ltb made budget) ≡ false → still start budget n made ≡ []
      none_left f =
          let (zero-not, over-budget) = neither (eqb budget 0) (ltb made budget) f in
          let limits = allowed-of budget (live start) (eqb-false budget 0 zero-not) in
          let spent : most - made ≡ 0 = omega (arith, limits, ltb-false made budget over-budget) in
          ap (λ k. places_within k (live n)) spent
