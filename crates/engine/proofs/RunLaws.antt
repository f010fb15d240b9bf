-- Calls on the arrays follow the calls on the lists step by step, from the empty network on; a
-- network that is not well formed comes back with 6, and a refused call hands back the very
-- network. A drain leads where its deliveries lead as calls, so what holds after every list of
-- calls holds after a drain; one with no limit leaves nothing waiting. What they post, grant and
-- deny adds up as it does for the lists. Assumes nothing.
use mathlib.Core.Path.{◌≡◌, refl, sym, ap, subst, ◌∙◌}
use mathlib.Core.Logic.{⊎_elim}
use mathlib.Core.Bool.{true, false}
use mathlib.Core.List.{List, [], ◌∷◌, ◌++◌, map}
use Prim.Native.Nat.{ℕ, ◌+◌}
use native.Mathlib.Omega.{arith}
use lib.ListN.{length}
use Rattle.predicates.proofs.TestLaws.{holds, is_true, decided}
use Rattle.refusal.specs.Code.{Reason, plain}
use Rattle.refusal.specs.Rules.{Coded, done, no}
use Rattle.protocol.specs.declared.Call.{Call}
use Rattle.protocol.specs.declared.Call.TheVariants.{Deliver}
use Rattle.protocol.specs.declared.Reply.{Reply}
use Rattle.protocol.specs.declared.Reply.TheVariants.{Ran}
use Rattle.protocol.specs.State.{State, status_at, requests, well_formed as lists_are_well_formed}
use Rattle.protocol.specs.Calls.{refused as lists_refused, apply_of as apply_to_lists}
use Rattle.protocol.specs.History.{History, start, advanced, run as run_lists, history}
use Rattle.protocol.specs.Claim.{Settled}
use Rattle.protocol.specs.Drain.{allowed, places, drained as drained_lists, drain_of as drain_lists}
use Rattle.protocol.proofs.Lively.{steady}
use Rattle.protocol.proofs.Drains.{nothing_left, unlimited, deliveries_are_calls}
use Rattle.protocol.proofs.Theorem.{ring}
use Rattle.protocol.proofs.Posted.{refused-same as lists-refused-same, drain_refused_same as drain-lists-refused-same}
use Rattle.network.specs.declared.Network.{Network}
use Rattle.network.specs.Arrays.{live, well_formed, held, empty}
use Rattle.network.proofs.Lengths.{Lengths}
use Rattle.network.proofs.ArrayLaws.{well-formed, live-held, held_well_formed, held-live}
use Rattle.engine.specs.Outcomes.{Applied, refused, in_arrays, apply_of, drain_of, run}
use Rattle.engine.specs.Emptied.{EmptiedClaim}
use Rattle.engine.specs.Accounts.{sum_of, posts_in, grants_in, denials_in, ArraysClaim}

-- ---- 6: a network that is not well formed comes back as it is
pub malformed : (n : Network) (call : Call) → well_formed n ≡ false → apply_of n call ≡ refused n (plain 6)
unfolding apply_of
malformed n call e = rw e

pub malformed_drain : (n : Network) (budget : ℕ) → well_formed n ≡ false → drain_of n budget ≡ refused n (plain 6)
unfolding drain_of
malformed_drain n budget e = rw e

-- ---- a refused call hands back the very network, and posts nothing; so does a refused drain
pub refused-here : (n : Network) → Lengths n → (call : Call) (r : Reason) → well_formed n ≡ true → apply_to_lists (live n) call ≡ lists_refused (live n) r
    → apply_of n call ≡ refused n r
unfolding apply_of
refused-here n l call r h e = rw (h, e, held-live n l.nodes l.messages h)

pub refused-same : (n : Network) → Lengths n → (call : Call) (r : Reason) → (apply_of n call).said ≡ no r → apply_of n call ≡ refused n r
unfolding apply_of
refused-same n l call r e = ⊎_elim (λ t. refused-here n l call r t (lists-refused-same (live n) call r (said t))) (λ f. malformed n call f ∙ ap (refused n) (six f)) (decided (well_formed n))
  where
    said : well_formed n ≡ true → (apply_to_lists (live n) call).said ≡ no r
    said t = rw t at e

    six : well_formed n ≡ false → plain 6 ≡ r
    six f = let given : ◌≡◌ {A = Coded Reply} (no (plain 6)) (no r) = rw (malformed n call f) at e in cc

pub drain_refused_same : (n : Network) → Lengths n → (budget : ℕ) (r : Reason) → (drain_of n budget).said ≡ no r → drain_of n budget ≡ refused n r
unfolding drain_of
drain_refused_same n l budget r e = ⊎_elim well (λ f. malformed_drain n budget f ∙ ap (refused n) (six f)) (decided (well_formed n))
  where
    well : well_formed n ≡ true → drain_of n budget ≡ refused n r
    well t = let said : (drain_lists (live n) budget).said ≡ no r = rw t at e in rw (t, drain-lists-refused-same (live n) budget r said, held-live n l.nodes l.messages t)

    six : well_formed n ≡ false → plain 6 ≡ r
    six f = let given : ◌≡◌ {A = Coded Reply} (no (plain 6)) (no r) = rw (malformed_drain n budget f) at e in cc

-- ---- calls on the arrays follow the calls on the lists
pub apply_held : (s : State) (call : Call) → lists_are_well_formed s ≡ true → apply_of (held s) call ≡ in_arrays (apply_to_lists s call)
unfolding apply_of
apply_held s call h = rw (held_well_formed s h, live-held s)

run-held : (calls : List Call) (h : History) → lists_are_well_formed h.state ≡ true → run (held h.state) calls ≡ held (run_lists h calls).state
run-held [] h w = refl
run-held (call ∷ calls) h w =
    let kept = is_true _ ((steady h.state (holds w)).kept call) in
    rw (apply_held h.state call w) (run-held calls (advanced h call) kept)

pub run-empty : (calls : List Call) → run empty calls ≡ held (history calls).state
unfolding lists_are_well_formed
run-empty calls = run-held calls start refl

pub run-live : (calls : List Call) → live (run empty calls) ≡ (history calls).state
run-live calls = rw (run-empty calls) (live-held (history calls).state)

lists_stay_well_formed : (calls : List Call) → lists_are_well_formed (history calls).state ≡ true
lists_stay_well_formed calls = is_true _ (ring calls).well_formed

pub run_well_formed : (calls : List Call) → well_formed (run empty calls) ≡ true
run_well_formed calls = rw (run-empty calls) (held_well_formed (history calls).state (lists_stay_well_formed calls))

-- and what the next call says is what the rules say of the lists
pub run-says : (calls : List Call) (call : Call) → (apply_of (run empty calls) call).said ≡ (apply_to_lists (history calls).state call).said
run-says calls call = rw (run-empty calls, apply_held (history calls).state call (lists_stay_well_formed calls))

-- ---- what the calls on the arrays add up to is what the history counts
-- f measures what a call on the arrays comes to, and g is what the history has counted of it
summed : (f : Applied → ℕ) (g : History → ℕ) → ((h : History) (call : Call) → g (advanced h call) ≡ g h + f (in_arrays (apply_to_lists h.state call)))
    → (calls : List Call) (h : History) → lists_are_well_formed h.state ≡ true → g (run_lists h calls) ≡ g h + sum_of f (held h.state) calls
summed f g adds [] h w = omega arith
summed f g adds (call ∷ calls) h w =
    let kept : lists_are_well_formed (apply_to_lists h.state call).state ≡ true = is_true _ ((steady h.state (holds w)).kept call) in
    rw (apply_held h.state call w) (omega (arith, adds h call, summed f g adds calls (advanced h call) kept))

pub after_calls : ArraysClaim
unfolding lists_are_well_formed
after_calls calls =
    let sound = ring calls in
    let sent = summed posts_in (λ h. h.posts) (λ h call. refl) calls start refl in
    let granted = summed grants_in (λ h. h.grants) (λ h call. refl) calls start refl in
    let denied = summed denials_in (λ h. h.denials) (λ h call. refl) calls start refl in
    let waiting = ap (λ (n : Network). n.waiting) (run-empty calls) in
    record {
      settled = λ none u. subst (λ s. Settled (status_at s u)) (sym (run-live calls)) (sound.settled (nothing_left (history calls).state.messages (sym waiting ∙ none)) u);
      accounts = omega (arith, sound.accounts, sent, granted, denied, ap (λ (s : State). requests s.messages) (run-live calls));
    }

-- ---- a drain counts as the deliveries it makes
drain_held : (s : State) (budget : ℕ) → lists_are_well_formed s ≡ true → drain_of (held s) budget ≡ in_arrays (drained_lists s (places budget s))
unfolding drain_of drain_lists
drain_held s budget h = rw (held_well_formed s h, live-held s, h)

-- one with no limit leaves nothing waiting
pub emptied : EmptiedClaim
unfolding drain_of drain_lists
emptied n w =
    let h = is_true (well_formed n) w in
    let lists = (well-formed n h).lists in
    let u = unlimited (live n) (holds lists) in
    record { nothing_waits = rw (h, lists, u.nothing_waits); said = rw (h, lists, u.nothing_waits); within_load = u.within_load (allowed 0 (live n)) }

module _ (calls : List Call) (budget : ℕ) where
  -- the network that the calls make, drained
  run-drained : drain_of (run empty calls) budget ≡ in_arrays (drained_lists (history calls).state (places budget (history calls).state))
  run-drained = rw (run-empty calls) (drain_held (history calls).state budget (lists_stay_well_formed calls))

  -- it is the one that the calls make with the drain's deliveries at their end
  pub run-drain : (drain_of (run empty calls) budget).network ≡ run empty (calls ++ map Deliver (places budget (history calls).state))
  run-drain = rw (run-drained, deliveries_are_calls calls (places budget (history calls).state)) (sym (run-empty (calls ++ map Deliver (places budget (history calls).state))))

  -- and the answer is how many these are, and how many messages wait there
  pub run-drain-says : (drain_of (run empty calls) budget).said
      ≡ done (Ran (length (places budget (history calls).state)) (length (history (calls ++ map Deliver (places budget (history calls).state))).state.messages))
  run-drain-says = rw (run-drained, deliveries_are_calls calls (places budget (history calls).state))
