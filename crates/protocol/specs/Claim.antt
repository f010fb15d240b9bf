-- The claim over lists (docs/RULES.md, section 10): what holds after any list of calls from the
-- empty network. It is stated here in full, and cites no proof. Definitions only.
use Rattle.std.specs.Prelude.{ℕ, ◌+◌, ◌*◌, ◌<◌, ◌≤◌, ◌≡◌, ◌≢◌, false, List, [], ◌∷◌, length, T, Some}
use Rattle.predicates.specs.Tests.{bit}
use Rattle.links.specs.Walk.{Circuit, Predecessor}
use Rattle.parts.specs.declared.Status.{Status}
use Rattle.parts.specs.declared.Status.TheVariants.{Ins, Del}
use Rattle.parts.specs.declared.Message.{Message}
use Rattle.protocol.specs.declared.Call.{Call}
use Rattle.protocol.specs.declared.Call.TheVariants.{Deliver}
use Rattle.protocol.specs.State.{State, status_at, key_at, left_at, right_at, notice_waits, well_formed, requests, load, numbers_fit, inserted}
use Rattle.protocol.specs.Calls.{apply_of}
use Rattle.protocol.specs.History.{History, history}
use Rattle.protocol.specs.Answer.{accepted}

-- R4.1: u is inserted
abbrev pub Inserted : State → ℕ → Type 0
Inserted s u = T (inserted s u)

-- ---- deliveries
-- R10.8: a delivery at this place is not refused
abbrev pub Delivers : State → ℕ → Type 0
Delivers s place = T (accepted (apply_of s (Deliver place)).said)

-- R10.9: of deliveries at these places, one after the other with nothing between them, how many are
-- not refused
abbrev pub delivered : State → List ℕ → ℕ
delivered s [] = 0
delivered s (place ∷ places) = bit (accepted (apply_of s (Deliver place)).said) + delivered (apply_of s (Deliver place)).state places

-- ---- R10.13: what holds of every well-formed network, ring or not
pub record Lively (s : State) : Type 0 where
  -- R10.8: while a message waits, a delivery at some place is not refused
  pub progress : 0 < length s.messages → (place : ℕ) × Delivers s place
  -- R10.9: of any deliveries that may follow, at whichever places, no more than the load are not
  -- refused
  pub bound : (places : List ℕ) → delivered s places ≤ load s.messages

-- R10.13: each call leaves a well-formed network, and such a network is lively
pub record Steady (s : State) : Type 0 where
  pub kept : (call : Call) → T (well_formed (apply_of s call).state)
  pub lively : Lively s

-- R10.13: of every well-formed network
abbrev pub SteadyClaim : Type 0
SteadyClaim = (s : State) → T (well_formed s) → Steady s

-- ---- R10.5, R10.6, R10.7: the ring of the inserted nodes
pub record Ringed (s : State) : Type 0 where
  -- R10.5: from each inserted node the right links lead once through each inserted node, through no
  -- other, and home;
  -- R10.6: the key rises at every move but one; a lone node moves to itself
  pub circuit : (u : ℕ) → Inserted s u → Circuit (key_at s) (right_at s) (Inserted s) u
  -- R10.7: just one inserted node has a right link to each inserted node
  pub predecessor : (u : ℕ) → Inserted s u → Predecessor (right_at s) (Inserted s) u
  -- R10.7: and where no SetL to a node waits, its left link names that one
  pub left : (u p : ℕ) → Inserted s u → notice_waits s u ≡ false → Inserted s p → right_at s p ≡ Some u → left_at s u ≡ Some p

-- R10.16: three messages for each grant, two for each denial and one for each SetR among those that
-- wait
abbrev pub posted_for : ℕ → ℕ → List Message → ℕ
posted_for grants denials waiting = 3 * grants + 2 * denials + requests waiting

-- R10.15: a node of this status waits for no answer
abbrev pub Settled : Status → Type 0
Settled s = (s ≢ Ins) × (s ≢ Del)

-- ---- R10.1: what holds after a list of calls
pub record Sound (h : History) : Type 0 where
  -- R10.10: the network is well formed, and its numbers are such as the fields can hold
  pub well_formed : T (well_formed h.state)
  pub numbers_fit : T (numbers_fit h.state)
  -- R10.4: who is told inserted by the calls and their answers is who is inserted by R4.1
  pub told : (u : ℕ) → h.told u ≡ inserted h.state u
  pub ring : Ringed h.state
  pub lively : Lively h.state
  -- R10.15: where nothing waits, no node is ins or del
  pub settled : h.state.messages ≡ [] → (u : ℕ) → Settled (status_at h.state u)
  -- R10.16: so many messages were posted as grants, denials and waiting SetR account for
  pub accounts : h.posts ≡ posted_for h.grants h.denials h.state.messages

-- R10.1: for every list of calls, of any arguments, refused ones included
abbrev pub RingClaim : Type 0
RingClaim = (calls : List Call) → Sound (history calls)
