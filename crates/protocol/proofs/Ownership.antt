-- Who owns which serial after each call, and what the call passed on. Both go by the order of the
-- inserted nodes and by what the call's event did to it; no case of a call is looked at again. The
-- ring before and the ring after have one owner each for a serial, and but for the two nodes that
-- the event names every right link is as it was (`links`, `Passing`). Assumes nothing.
use Rattle.std.specs.Prelude.{Option, None, Some}
use mathlib.Core.Path.{◌≡◌, refl}
use mathlib.Core.Logic.{inl, inr, ⊎_elim, ◌↔◌, ◌≢◌}
use mathlib.Core.List.{List, [], ◌∷◌, map}
use Prim.Native.Nat.{ℕ}
use lib.Dec.{T}
use borrow.Author.Tests.{not-false}
use Rattle.predicates.proofs.Laws.{impossible}
use Rattle.predicates.proofs.TestLaws.{◌∈◌, holds}
use Rattle.refusal.specs.Code.{Reason}
use Rattle.refusal.specs.Rules.{Coded, done, no, first, unless_refused}
use Rattle.refusal.proofs.Laws.{cleared}
use Rattle.serial.specs.Serial.{in_range}
use Rattle.interval.specs.Interval.{within}
use Rattle.interval.proofs.Laws.{within-self, within_iff}
use Rattle.links.specs.Ring.{with_member, without_member}
use Rattle.links.proofs.Trails.{same_end}
use Rattle.links.proofs.Owner.{owner}
use Rattle.links.proofs.Passing.{Has, SameKeys, all-kept, not-passed, from-p, to-p}
use Rattle.protocol.specs.declared.Call.{Call}
use Rattle.protocol.specs.declared.Call.TheVariants.{Deliver}
use Rattle.protocol.specs.declared.Reply.{Reply}
use Rattle.protocol.specs.declared.Reply.TheVariants.{Owner}
use Rattle.protocol.specs.State.{State, key_at, right_at, inserted}
use Rattle.protocol.specs.Events.{Event}
use Rattle.protocol.specs.History.{History, start, happened, advanced, history}
use Rattle.protocol.specs.Claim.{Inserted}
use Rattle.protocol.specs.EventClaim.{Ordered, Stays, Founds, Admits, Releases, Empties, Happened}
use Rattle.protocol.specs.Questions.{walked, owner_from, owner_rules, owner_of, hop_limit}
use Rattle.protocol.specs.Drain.{places}
use Rattle.protocol.specs.FurtherClaims.{Owns}
use Rattle.protocol.specs.Ownership.{OneOwner, Names, Owned, Passes, SameOwner, ByJoin, ByLeave, ByCreation, ByLoneLeave, Transfers, InTurn, OwnershipClaim}
use Rattle.protocol.proofs.Drains.{run_append, drain_is_calls}
use Rattle.protocol.proofs.Steps.{Good}
use Rattle.protocol.proofs.Theorem.{good-next, good}
use Rattle.protocol.proofs.EventLaws.{ordered, next-happened}
use Rattle.protocol.proofs.Owners.{owns-as, owner_found}

-- ---- one owner
module _ {s : State} {L : List ℕ} (k : Ordered s L) where
  has : (serial u : ℕ) → Owns s serial u ↔ Has (key_at s) (right_at s) L serial u
  has = owns-as k.members

  one_owner : (w : ℕ) → Inserted s w → (serial : ℕ) → OneOwner s serial
  one_owner w t serial =
      let o = owner k.ring ((k.members w).1 t) serial in
      record {
        node = o.node;
        owns = (has serial o.node).1 (o.member, o.owns);
        only = λ u h. let (i, d) = (has serial u).0 h in o.only u i d;
      }

-- the question names this owner, and from an inserted start alone
module _ (calls : List Call) (from serial u : ℕ) where
  abbrev s : State
  s = (history calls).state

  asked-there : Names (owner_of s from serial) u → Inserted s from × (T (in_range serial) × Owns s serial u)
  unfolding owner_of
  asked-there (hops, said) = go (first (owner_rules s from serial)) refl said
    where
      go : (o : Option Reason) → first (owner_rules s from serial) ≡ o → unless_refused o no (walked (owner_from s serial (hop_limit s) from 0)) ≡ done (Owner u hops)
          → Inserted s from × (T (in_range serial) × Owns s serial u)
      go None clear f =
          let (_, (_, (ranged, (member, _)))) = cleared (owner_rules s from serial) clear in
          let t = holds (not-false (inserted s from) member) in
          let r = holds (not-false (in_range serial) ranged) in
          let finds = owner_found calls from serial t r in
          let e : finds.node ≡ u = cc in
          (t, (r, rw e at finds.owns))
      go (Some n) refuses f = impossible cc

  named-there : Inserted s from × (T (in_range serial) × Owns s serial u) → Names (owner_of s from serial) u
  named-there (t, (r, owns)) = let finds = owner_found calls from serial t r in (finds.hops, rw (finds.only u owns) finds.answer)

owned : (calls : List Call) → Owned (history calls).state (owner_of (history calls).state)
owned calls = record {
  one_owner = one_owner (ordered (history calls).state (good calls).invariant.order);
  named = λ from serial u. (asked-there calls from serial u, named-there calls from serial u);
}

-- ---- what each event passes on
module _ {s s' : State} {L M : List ℕ} (k : Ordered s L) (k' : Ordered s' M) where
  same-owner : {serial : ℕ} → ((u : ℕ) → Has (key_at s') (right_at s') M serial u ↔ Has (key_at s) (right_at s) L serial u) → SameOwner s s' serial
  same-owner {serial} both u = let was = has k serial u in let is = has k' serial u in (λ o. was.1 ((both u).0 (is.0 o)), λ o. is.1 ((both u).1 (was.0 o)))

-- one node alone owns all
all-owned : {s : State} {u : ℕ} → ((w : ℕ) → Inserted s w ↔ (w ≡ u)) → right_at s u ≡ Some u → (serial w : ℕ) → Owns s serial w ↔ (w ≡ u)
all-owned {s} {u} alone right serial w = (
  λ o. (alone w).0 o.inserted,
  λ e. rw e (record { inserted = (alone u).1 refl; next = u; right = right; holds = (within_iff _ _ _).1 (within-self (key_at s u) serial) }),
)

by_creation : {s s' : State} {u : ℕ} → Founds s s' u → ByCreation s s' u
by_creation e = record { none_before = λ serial w o. e.none_before w o.inserted; all_after = all-owned e.inserted e.right }

by_lone_leave : {s s' : State} {u : ℕ} → Empties s s' u → ByLoneLeave s s' u
by_lone_leave e = record { all_before = all-owned e.alone_before e.right_before; none_after = λ serial w o. e.none w o.inserted }

module _ {s s' : State} {L : List ℕ} (k : Ordered s L) where
  by_other : Stays s s' → (serial : ℕ) → SameOwner s s' serial
  by_other e serial =
      let k' = e.order L k in
      same-owner k k'
      (all-kept k.ring k'.ring (λ u i _. e.keys u ((k.members u).0 i)) (λ u i. i) (λ u i. i) (λ u i. e.rights u ((k.members u).0 i)) serial)

  by_join : {v p : ℕ} → Admits s s' v p → ByJoin s s' v p
  by_join {v} {p} e = record {
    next = e.next;
    right = e.right_of_v;
    none_before = λ serial o. e.new o.inserted;
    passed = passed;
    kept = kept;
  }
    where
      k' : Ordered s' (with_member (key_at s) v L)
      k' = e.order L k

      keys : SameKeys (key_at s) (key_at s') L (with_member (key_at s) v L)
      keys u i j = e.keys u ((k'.members u).0 j)

      stay : (u : ℕ) → u ∈ L → u ∈ with_member (key_at s) v L
      stay u i = (k'.members u).1 ((e.inserted u).1 (inl ((k.members u).0 i)))

      was : p ∈ L
      was = (k.members p).1 e.behind

      rights : (u : ℕ) → u ∈ L → u ∈ with_member (key_at s) v L → u ≢ p → right_at s' u ≡ right_at s u
      rights u i j = e.rights u ((k.members u).0 i)

      passed : (serial : ℕ) → T (within (key_at s' v) (key_at s' e.next) serial) → Passes s s' serial p v
      passed serial holds =
          let now : Owns s' serial v = record { inserted = (e.inserted v).1 (inr refl); next = e.next; right = e.right_of_v; holds = holds } in
          let from = from-p k.ring k'.ring keys p rights was stay (λ i. e.new ((k.members v).0 i)) ((has k' serial v).0 now) in
          ((has k serial p).1 from, now)

      -- who owns it now was there: v owns only what lies in its interval
      old : {serial : ℕ} → ¬ T (within (key_at s' v) (key_at s' e.next) serial) → (u : ℕ) → Owns s' serial u → u ∈ L
      old {serial} out u o = ⊎_elim (λ t. (k.members u).1 t) (λ f. absurd (out (inside f))) ((e.inserted u).0 o.inserted)
        where
          inside : u ≡ v → T (within (key_at s' v) (key_at s' e.next) serial)
          inside f = let ends = same_end (rw f at o.right) e.right_of_v in rw (f, ends) at o.holds

      kept : (serial : ℕ) → ¬ T (within (key_at s' v) (key_at s' e.next) serial) → SameOwner s s' serial
      kept serial out = same-owner k k'
          (not-passed k.ring k'.ring keys p rights was (stay p was) (λ u h. old out u ((has k' serial u).1 h)) (λ u h. stay u h.0))

  by_leave : {v p : ℕ} → Releases s s' v p → ByLeave s s' v p
  by_leave {v} {p} e = record {
    own_key = (has k (key_at s v) v).1 ((k.members v).1 e.leaver, record { next = e.next; link = e.right_of_v; within = inl refl });
    passed = passed;
    kept = kept;
    none_after = λ serial o. ((e.inserted v).0 o.inserted).1 refl;
  }
    where
      k' : Ordered s' (without_member v L)
      k' = e.order L k

      keys : SameKeys (key_at s) (key_at s') L (without_member v L)
      keys u i j = e.keys u ((k.members u).0 i)

      was : p ∈ L
      was = (k.members p).1 e.behind

      is : p ∈ without_member v L
      is = (k'.members p).1 ((e.inserted p).1 (e.behind, e.differ))

      rights : (u : ℕ) → u ∈ L → u ∈ without_member v L → u ≢ p → right_at s' u ≡ right_at s u
      rights u i j = e.rights u ((k.members u).0 i)

      old : (u : ℕ) → u ∈ without_member v L → u ∈ L
      old u j = (k.members u).1 ((e.inserted u).0 ((k'.members u).0 j)).0

      passed : (serial : ℕ) → Owns s serial v → Passes s s' serial v p
      passed serial o =
          let gone : ¬ (v ∈ without_member v L) = λ j. ((e.inserted v).0 ((k'.members v).0 j)).1 refl in
          (o, (has k' serial p).1 (to-p k.ring k'.ring keys p rights is old gone ((has k serial v).0 o)))

      kept : (serial : ℕ) → ¬ Owns s serial v → SameOwner s s' serial
      kept serial none = same-owner k k' (not-passed k.ring k'.ring keys p rights was is (λ u h. old u h.0) still)
        where
          still : (u : ℕ) → Has (key_at s) (right_at s) L serial u → u ∈ without_member v L
          still u h =
              let o : Owns s serial u = (has k serial u).1 h in
              (k'.members u).1 ((e.inserted u).1 (o.inserted, λ f. none (rw f at o)))

  transfers : (event : Event) → Happened s s' event → Transfers s s' event
  transfers event h = record {
    granted_join = λ v p f. by_join (rw f at h);
    granted_leave = λ v p f. by_leave (rw f at h);
    creation = λ u f. by_creation (rw f at h);
    lone_leave = λ u f. by_lone_leave (rw f at h);
    other_call = λ f. by_other (rw f at h);
  }

-- ---- in turn
next_transfers : (h : History) → Good h → (call : Call) → Transfers h.state (advanced h call).state (happened h call)
next_transfers h g call = transfers (ordered h.state g.invariant.order) (happened h call) (next-happened h g call)

in_turn : (h : History) → Good h → (calls : List Call) → InTurn h calls
in_turn h g [] = tt
in_turn h g (call ∷ calls) = (next_transfers h g call, in_turn (advanced h call) (good-next h g call) calls)

-- ---- the claim
pub transferred : (calls : List Call) (call : Call) → Transfers (history calls).state (advanced (history calls) call).state (happened (history calls) call)
transferred calls = next_transfers (history calls) (good calls)

pub turns : (calls more : List Call) → InTurn (history calls) more
turns calls = in_turn (history calls) (good calls)

-- asked in another way that gives the same answers
pub asked_alike : {s : State} {asked asked' : ℕ → ℕ → Coded Reply} → ((from serial : ℕ) → asked' from serial ≡ asked from serial) → Owned s asked → Owned s asked'
asked_alike same o = record { one_owner = o.one_owner; named = λ from serial u. rw (same from serial) (o.named from serial u) }

pub ownership : OwnershipClaim
ownership calls = record {
  owned = owned calls;
  next_call = λ call. rw (run_append start calls (call ∷ [])) (transferred calls call);
  next_drain = λ budget. record {
    state = (drain_is_calls calls budget).state;
    in_turn = turns calls (map Deliver (places budget (history calls).state));
  };
}
