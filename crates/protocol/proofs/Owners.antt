-- The owner of a serial is found from every inserted node, and refusal 31 is never given on a
-- network that a list of calls makes. The search follows the walk along right links; the ring has
-- one owner, the walk meets it in fewer moves than there are members, and the members are no more
-- than the nodes, which are the hops allowed. Assumes nothing.
use Rattle.std.specs.Prelude.{Some}
use mathlib.Core.Path.{◌≡◌, refl, sym, ap, ◌∙◌, subst}
use mathlib.Core.Logic.{◌↔◌, ◌≢◌}
use mathlib.Core.Bool.{true, false}
use mathlib.Core.List.{List}
use Rattle.std.specs.Prelude.{Option, None, Some}
use Prim.Native.Nat.{ℕ, zero, suc, ◌+◌, ◌≤◌, ◌<◌}
use native.Mathlib.Omega.{arith}
use lib.ListN.{length}
use lib.Dec.{T}
use borrow.Author.Tests.{lt-ltb, not-false}
use Rattle.predicates.proofs.Laws.{impossible, by_test}
use Rattle.predicates.proofs.TestLaws.{◌∈◌, holds, is_true, not-both}
use Rattle.refusal.specs.Code.{Reason, plain}
use Rattle.refusal.specs.Rules.{done, no, first, unless_refused}
use Rattle.refusal.proofs.Laws.{cleared, Never, never, others}
use Rattle.serial.specs.Serial.{in_range}
use Rattle.interval.specs.Interval.{within}
use Rattle.interval.proofs.Laws.{Within, within_iff}
use Rattle.links.specs.Walk.{after}
use Rattle.links.proofs.Ring.{Ring}
use Rattle.links.proofs.Lists.{few-below}
use Rattle.links.proofs.Trails.{same_end, move-to}
use Rattle.links.proofs.Circuit.{linked-in, next-in}
use Rattle.links.proofs.Owner.{KeyOwner, owner, reaches}
use Rattle.links.proofs.Passing.{Has}
use Rattle.parts.specs.Tests.{Link}
use Rattle.protocol.specs.declared.Reply.TheVariants.{Owner}
use Rattle.protocol.specs.State.{State, declared, node_at, key_at, right_at, well_formed, inserted}
use Rattle.protocol.specs.History.{history}
use Rattle.protocol.specs.Claim.{Inserted}
use Rattle.protocol.specs.Questions.{Walk, found, walked, owner_at, owner_from, owner_rules, owner_of, hop_limit}
use Rattle.protocol.specs.FurtherClaims.{Owns, FindsOwner, OwnerClaim, AlwaysFound}
use Rattle.protocol.proofs.Nodes.{declared_unless_out}
use Rattle.protocol.proofs.Facts.{tested}
use Rattle.protocol.proofs.Frames.{member_not_out}
use Rattle.protocol.proofs.Theorem.{good, listed-inserted}

-- who owns a serial, in the words of the ring that the inserted nodes are
pub owns-as : {s : State} {L : List ℕ} → ((u : ℕ) → (u ∈ L) ↔ Inserted s u) → (serial u : ℕ) → Owns s serial u ↔ Has (key_at s) (right_at s) L serial u
owns-as member serial u = (
  λ o. ((member u).1 o.inserted, record { next = o.next; link = o.right; within = (within_iff _ _ _).0 o.holds }),
  λ h. record { inserted = (member u).0 h.0; next = h.1.next; right = h.1.link; holds = (within_iff _ _ _).1 h.1.within },
)

-- ---- the search follows the walk
-- asked at u, with some hops made, the search says m; and the hops that it added are moves from u
-- to m
record Finds (s : State) (m u hops : ℕ) (walk : Walk) : Type 0 where
  added : ℕ
  reached : after (right_at s) u added ≡ m
  earlier : (k : ℕ) → k < added → after (right_at s) u k ≢ m
  answer : walk ≡ found m (added + hops)

module _ (s : State) (serial : ℕ) {L : List ℕ} (ring : Ring (key_at s) (right_at s) L) (o : KeyOwner (key_at s) (right_at s) serial L) where
  -- the search is at u, whose right link leads to q
  module _ {u q : ℕ} (link : right_at s u ≡ Some q) where
    -- where the test holds, u is the owner
    stops : (hops : ℕ) → u ∈ L → within (key_at s u) (key_at s q) serial ≡ true → Finds s o.node u hops (found u hops)
    stops hops i t =
        let e = o.only u i (record { next = q; link = link; within = (within_iff (key_at s u) (key_at s q) serial).0 (holds t) }) in
        record { added = 0; reached = e; earlier = λ k l. absurd (omega arith); answer = let none-added : hops ≡ 0 + hops = omega arith in cc }

    -- and at the owner the test holds
    at-owner : u ≡ o.node → within (key_at s u) (key_at s q) serial ≡ false → ⊥
    at-owner e f =
        let inside : Within (key_at s u) (key_at s q) serial = rw (e, same_end (rw e at link) o.owns.link) o.owns.within in
        not-both (is_true _ ((within_iff (key_at s u) (key_at s q) serial).1 inside)) f

    -- what is found from q on, is found from u on with a hop more
    goes_on : {hops : ℕ} {walk : Walk} → u ≢ o.node → Finds s o.node q (suc hops) walk → Finds s o.node u hops walk
    goes_on {hops} not-here f = record {
      added = suc f.added;
      reached = rw (move-to (right_at s) link) f.reached;
      earlier = earlier;
      answer = let one_more : f.added + suc hops ≡ suc f.added + hops = omega arith in cc;
    }
      where
        earlier : (k : ℕ) → k < suc f.added → after (right_at s) u k ≢ o.node
        earlier zero l = not-here
        earlier (suc k) l = rw (move-to (right_at s) link) (f.earlier k (omega arith))

    step : (left hops : ℕ) → u ∈ L
        → (within (key_at s u) (key_at s q) serial ≡ false → Finds s o.node q (suc hops) (owner_from s serial left q (suc hops)))
        → Finds s o.node u hops (owner_from s serial (suc left) u hops)
    step left hops i beyond =
        subst (λ (r : Link). Finds s o.node u hops (owner_at s serial u hops r (λ v. owner_from s serial left v (suc hops)))) (sym link)
        (by_test (Finds s o.node u hops) (within (key_at s u) (key_at s q) serial) _ _ (stops hops i) (λ f. goes_on (λ e. at-owner e f) (beyond f)))

  -- with more hops left than moves to the owner, it is found
  search : (left u hops k : ℕ) → u ∈ L → k < left → after (right_at s) u k ≡ o.node → Finds s o.node u hops (owner_from s serial left u hops)
  search zero u hops k i few e = absurd (omega arith)
  search (suc left) u hops zero i few e = let (q, link) = linked-in ring i in step link left hops i (λ f. absurd (at-owner link e f))
  search (suc left) u hops (suc k) i few e =
      let (q, link) = linked-in ring i in
      step link left hops i (λ f. search left q (suc hops) k (next-in ring i link) (omega arith) (rw (move-to (right_at s) link) at e))

-- ---- in a well-formed network whose inserted nodes are a ring
inserted-declared : (s : State) (u : ℕ) → Inserted s u → u < length s.nodes
unfolding inserted
inserted-declared s u t = declared_unless_out s u (member_not_out (node_at s) s.messages u (is_true _ t))

none-refuses : (s : State) (start serial : ℕ) → well_formed s ≡ true → declared s start ≡ true → in_range serial ≡ true → inserted s start ≡ true
    → owner_of s start serial ≡ walked (owner_from s serial (hop_limit s) start 0)
unfolding owner_of
none-refuses s start serial well-formed known ranged member = simp (well-formed, known, ranged, member)

module _ (s : State) (well-formed : T (well_formed s)) {L : List ℕ} (ring : Ring (key_at s) (right_at s) L) (member : (u : ℕ) → (u ∈ L) ↔ Inserted s u) where
  -- no more members than hops allowed
  few-members : length L ≤ hop_limit s
  few-members = few-below (key_at s) (length s.nodes) L ring.ascending (λ u i. inserted-declared s u ((member u).0 i))

  finds-owner : (start serial : ℕ) → Inserted s start → T (in_range serial) → FindsOwner s start serial (owner_of s start serial)
  finds-owner start serial t ranged =
      let i = (member start).1 t in
      let o = owner ring i serial in
      let (k, few, meets) = reaches ring i o.member in
      let f = search s serial ring o (hop_limit s) start 0 k i (omega (arith, few, few-members)) meets in
      let known = lt-ltb start (length s.nodes) (inserted-declared s start t) in
      let clear = none-refuses s start serial (is_true _ well-formed) known (is_true _ ranged) (is_true _ t) in
      record {
        node = o.node;
        hops = f.added;
        answer = let all-added : f.added + 0 ≡ f.added = omega arith in clear ∙ ap walked f.answer ∙ ap (λ (k : ℕ). done (Owner o.node k)) all-added;
        owns = (owns-as member serial o.node).1 (o.member, o.owns);
        only = λ u w. let (i, d) = (owns-as member serial u).0 w in o.only u i d;
        reached = f.reached;
        first = f.earlier;
      }

-- ---- after any list of calls
pub owner_found : OwnerClaim
owner_found calls =
    let g = good calls in
    finds-owner (history calls).state (holds (tested _ g.well_formed)) g.invariant.order.ring (listed-inserted _ g.invariant.order)

-- the rules before the search give other numbers, and where none refuses the search finds
pub always_found : AlwaysFound
unfolding owner_of
always_found calls start serial e = go (first (owner_rules s start serial)) refl e
  where
    s : State
    s = (history calls).state

    never_31 : Never 31 (owner_rules s start serial)
    never_31 = others refl

    go : (o : Option Reason) → first (owner_rules s start serial) ≡ o → unless_refused o no (walked (owner_from s serial (hop_limit s) start 0)) ≡ no (plain 31) → ⊥
    go None clear f =
        let (_, (_, (ranged, (member, _)))) = cleared (owner_rules s start serial) clear in
        let finds = owner_found calls start serial (holds (not-false (inserted s start) member)) (holds (not-false (in_range serial) ranged)) in
        impossible (cc finds.answer)
    go (Some n) refuses f = never never_31 cc
