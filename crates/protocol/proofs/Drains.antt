-- None of a drain's deliveries is refused, it goes on while a message waits and its budget allows,
-- and it leads where these deliveries lead as calls. While a message waits in a well-formed network
-- some delivery is not refused, so the search for the lowest place finds one; each delivery leaves
-- the network well formed, and lowers the load. So as many deliveries as the load are enough, and a
-- drain that may make them ends where nothing waits. Assumes nothing.
use mathlib.Core.Path.{◌≡◌, refl, sym, ap, ◌∙◌}
use mathlib.Core.Logic.{⊎_elim, ◌≢◌}
use mathlib.Core.Bool.{Bool, true, false, and-false}
use mathlib.Core.List.{List, [], ◌∷◌, ◌++◌, map}
use Rattle.std.specs.Prelude.{Option, None, Some}
use Prim.Native.Nat.{ℕ, zero, suc, ◌+◌, ◌*◌, ◌≤◌, ◌<◌}
use native.Mathlib.Omega.{arith}
use native.Mathlib.Nat.{zero-add, suc-add, eq-or-lt_of_le, eq-zero-or-pos}
use lib.ListN.{length}
use lib.Dec.{T, ltb}
use borrow.Author.Tests.{ltb-true, ltb-false}
use Rattle.predicates.proofs.TestLaws.{decided, is_true, not-both, bit-true}
use Rattle.protocol.specs.declared.Call.{Call}
use Rattle.protocol.specs.declared.Call.TheVariants.{Deliver}
use Rattle.parts.specs.declared.Message.{Message}
use Rattle.parts.specs.Tests.{is_request}
use Rattle.protocol.specs.State.{State, load, well_formed}
use Rattle.protocol.specs.Calls.{is_full, apply_of}
use Rattle.protocol.specs.History.{History, start, advanced, run, history}
use Rattle.protocol.specs.Answer.{accepted}
use Rattle.protocol.specs.Drain.{lowest_from, lowest, after_delivery, places_from, places_within, allowed, places, deliver_all, posts_of_all, drained, drain_of}
use Rattle.protocol.specs.FurtherClaims.{DrainClaim, UnlimitedClaim, DrainIsCalls}
use Rattle.protocol.specs.Claim.{delivered}
use Rattle.protocol.proofs.Facts.{well-formed}
use Rattle.protocol.proofs.Lively.{count-all, lowers, steady}
use Rattle.protocol.proofs.Posted.{posts-of-all}
use Rattle.protocol.proofs.Theorem.{ring}

-- whether a delivery at a place is not refused
abbrev pub can_deliver : State → ℕ → Bool
can_deliver s place = accepted (apply_of s (Deliver place)).said

-- ---- a delivery where no message waits is refused
module _ (s : State) (place : ℕ) (w : T (well_formed s)) where
  absent-refused : ltb place (length s.messages) ≡ false → can_deliver s place ≡ false
  unfolding apply_of
  absent-refused absent = rw (is_true (well_formed s) w, absent, and-false (is_full s))

  waits_there : can_deliver s place ≡ true → place < length s.messages
  waits_there can = ⊎_elim (λ t. ltb-true place _ t) (λ f. absurd (not-both can (absent-refused f))) (decided (ltb place (length s.messages)))

-- ---- the search for the lowest place
-- past a place where a delivery is refused it goes on from the next
passed_over : (s : State) (k from : ℕ) → can_deliver s from ≡ false → lowest_from s from (suc k) ≡ lowest_from s (suc from) k
passed_over s k from refused = rw refused

-- it comes to a place before which each delivery is refused
lowest-from : (s : State) (k from place : ℕ) → from ≤ place → place < from + k → ((q : ℕ) → from ≤ q → q < place → can_deliver s q ≡ false) → can_deliver s place ≡ true
    → lowest_from s from k ≡ Some place
lowest-from s zero from place above below before can = absurd (omega arith)
lowest-from s (suc k) from place above below before can =
    ⊎_elim
    (λ (e : from ≡ place). rw (e, can))
    (λ (l : from < place). passed_over s k from (before from (omega arith) l) ∙ lowest-from s k (suc from) place l (omega arith) (λ q a b. before q (omega arith) b) can)
    (eq-or-lt_of_le above)

-- and where some delivery is not refused, it comes to the place of one that is not
search_ends : (s : State) (k from q : ℕ) → from ≤ q → q < from + k → can_deliver s q ≡ true → (place : ℕ) × (lowest_from s from k ≡ Some place) × (can_deliver s place ≡ true)
search_ends s zero from q above below can = absurd (omega arith)
search_ends s (suc k) from q above below can =
    ⊎_elim
    (λ t. (from, rw t, t))
    (λ f. let (place, e, c) = search_ends s k (suc from) q (past f) (omega arith) can in (place, passed_over s k from f ∙ e, c))
    (decided (can_deliver s from))
  where
    past : can_deliver s from ≡ false → from < q
    past refused = let other : from ≢ q = λ e. not-both (ap (can_deliver s) e ∙ can) refused in omega arith

pub lowest-at : (s : State) (place : ℕ) → place < length s.messages → ((q : ℕ) → q < place → can_deliver s q ≡ false) → can_deliver s place ≡ true → lowest s ≡ Some place
lowest-at s place waits before can = lowest-from s (length s.messages) 0 place (omega arith) (omega arith) (λ q _ l. before q l) can

some-lowest : (s : State) → T (well_formed s) → 0 < length s.messages → (place : ℕ) × (place < length s.messages) × T (can_deliver s place)
some-lowest s w some-wait = let (place, can) = (steady s w).lively.progress some-wait in (place, waits_there s place w (is_true _ can), can)

pub finds-lowest : (s : State) → T (well_formed s) → 0 < length s.messages → (place : ℕ) × (lowest s ≡ Some place) × (can_deliver s place ≡ true)
finds-lowest s w some-wait = let (q, waits, can) = some-lowest s w some-wait in search_ends s (length s.messages) 0 q (omega arith) (omega arith) (is_true _ can)

-- ---- the places of a drain
pub places-none : (most : ℕ) (s : State) → length s.messages ≡ 0 → places_within most s ≡ []
places-none zero s e = refl
places-none (suc most) s e = rw e

pub places-next : (most : ℕ) (s : State) (place : ℕ) → lowest s ≡ Some place → places_within (suc most) s ≡ place ∷ places_within most (after_delivery s place)
places-next most s place e = rw e

-- ---- what a drain comes to
pub drain_is : (s : State) (budget : ℕ) → T (well_formed s) → drain_of s budget ≡ drained s (places budget s)
unfolding drain_of
drain_is s budget w = rw (is_true (well_formed s) w)

pub nothing_left : {A : Type 0} (l : List A) → length l ≡ 0 → l ≡ []
nothing_left [] e = refl
nothing_left (x ∷ l) e = absurd (omega arith)

-- ---- at most so many deliveries
-- each message adds one to the load at least, and three at most
pub load-of-all : (ms : List Message) → (length ms ≤ load ms) × (load ms ≤ 3 * length ms)
load-of-all ms = let all = count-all (λ (m : Message). is_request m.kind) ms in (omega (arith, all), omega (arith, all))

-- none of them is refused, each lowers the load, and there are fewer only where nothing waits then
record Made (s : State) (most : ℕ) : Type 0 where
  within : length (places_within most s) ≤ most
  none_refused : delivered s (places_within most s) ≡ length (places_within most s)
  to_the_end : length (places_within most s) < most → (deliver_all s (places_within most s)).messages ≡ []
  lowered : load (deliver_all s (places_within most s)).messages + length (places_within most s) ≤ load s.messages

made_none : (s : State) (most : ℕ) → length s.messages ≡ 0 → Made s most
made_none s most e =
    let none = places-none most s e in
    record { within = rw none (omega arith); none_refused = rw none; to_the_end = λ _. rw none (nothing_left s.messages e); lowered = rw none (omega arith) }

one_more : (s : State) (most place : ℕ) → lowest s ≡ Some place → can_deliver s place ≡ true → Made (after_delivery s place) most → Made s (suc most)
one_more s most place e can m =
    let next = places-next most s place e in
    record {
      within = rw next (omega (arith, m.within));
      none_refused = rw next (omega (arith, bit-true can, m.none_refused));
      to_the_end = λ l. rw next (m.to_the_end (omega (arith, ap length next)));
      lowered = rw next (omega (arith, bit-true can, lowers s place, m.lowered));
    }

made : (s : State) → T (well_formed s) → (most : ℕ) → Made s most
made s w zero = record { within = omega arith; none_refused = refl; to_the_end = λ l. absurd (omega arith); lowered = omega arith }
made s w (suc most) =
    ⊎_elim
    (made_none s (suc most))
    (λ some-wait. let (place, e, can) = finds-lowest s w some-wait in one_more s most place e can (made (after_delivery s place) ((steady s w).kept (Deliver place)) most))
    (eq-zero-or-pos (length s.messages))

within-budget : (s : State) → T (well_formed s) → (budget : ℕ) → budget ≢ 0 → length (places budget s) ≤ budget
within-budget s w zero some = absurd (some refl)
within-budget s w (suc budget) some = (made s w (suc budget)).within

pub drains : DrainClaim
drains s w budget =
    let m = made s w (allowed budget s) in
    record { result = drain_is s budget w; within_budget = within-budget s w budget; none_refused = m.none_refused; to_the_end = m.to_the_end }

-- ---- with no limit
-- where nothing waits at the end, it is the same however many more deliveries are allowed
enough : (most more : ℕ) (s : State) → (deliver_all s (places_within most s)).messages ≡ [] → places_within (most + more) s ≡ places_within most s
enough zero more s e = ap (λ k. places_within k s) (zero-add more) ∙ places-none more s (ap length e)
enough (suc most) more s e = ap (λ k. places_within k s) (suc-add most more) ∙ go (enough most more) (lowest s) e
  where
    go : ((s : State) → (deliver_all s (places_within most s)).messages ≡ [] → places_within (most + more) s ≡ places_within most s)
        → (o : Option ℕ) → (deliver_all s (places_from (places_within most) s o)).messages ≡ []
        → places_from (places_within (most + more)) s o ≡ places_from (places_within most) s o
    go then None e = refl
    go then (Some place) e = ap (λ l. place ∷ l) (then (after_delivery s place) e)

module _ (s : State) (w : T (well_formed s)) where
  abbrev end : State
  end = deliver_all s (places 0 s)

  all_allowed : load s.messages ≤ allowed 0 s
  all_allowed = omega arith

  -- as many deliveries as the load leave none of it
  none_loaded : load s.messages ≤ length (places 0 s) → length end.messages ≡ 0
  none_loaded all = omega (arith, (made s w (allowed 0 s)).lowered, (load-of-all end.messages).0)

  none-waits : end.messages ≡ []
  none-waits =
      ⊎_elim
      (λ t. (made s w (allowed 0 s)).to_the_end (ltb-true _ _ t))
      (λ f. nothing_left end.messages (none_loaded (omega (arith, all_allowed, ltb-false (length (places 0 s)) (allowed 0 s) f))))
      (decided (ltb (length (places 0 s)) (allowed 0 s)))

  lowers_the_load : (most : ℕ) → length (places_within most s) ≤ load s.messages
  lowers_the_load most = omega (arith, (made s w most).lowered)

  few_messages : length s.messages ≤ 64
  few_messages = (well-formed s (is_true _ w)).few_messages

pub unlimited : UnlimitedClaim
unlimited s w = record {
  nothing_waits = none-waits s w;
  no_limit = λ more. enough (allowed 0 s) more s (none-waits s w);
  within_load = lowers_the_load s w;
  count_fits = omega (arith, lowers_the_load s w (allowed 0 s), (load-of-all s.messages).1, few_messages s w);
}

-- ---- its deliveries as calls
pub run_append : (h : History) (calls more : List Call) → run h (calls ++ more) ≡ run (run h calls) more
run_append h [] more = refl
run_append h (call ∷ calls) more = run_append (advanced h call) calls more

run_deliveries : (h : History) (places : List ℕ) → deliver_all h.state places ≡ (run h (map Deliver places)).state
run_deliveries h [] = refl
run_deliveries h (place ∷ places) = run_deliveries (advanced h (Deliver place)) places

pub deliveries_are_calls : (calls : List Call) (places : List ℕ) → deliver_all (history calls).state places ≡ (history (calls ++ map Deliver places)).state
deliveries_are_calls calls places = run_deliveries (history calls) places ∙ ap (λ (h : History). h.state) (sym (run_append start calls (map Deliver places)))

deliveries_post : (calls : List Call) (places : List ℕ) → (history calls).posts + length (posts_of_all (history calls).state places) ≡ (history (calls ++ map Deliver places)).posts
deliveries_post calls places = posts-of-all (history calls) places ∙ ap (λ (h : History). h.posts) (sym (run_append start calls (map Deliver places)))

pub drain_is_calls : DrainIsCalls
drain_is_calls calls budget =
    let s = (history calls).state in
    let is = drain_is s budget (ring calls).well_formed in
    record { state = rw is (deliveries_are_calls calls (places budget s)); posts = rw is (deliveries_post calls (places budget s)) }
