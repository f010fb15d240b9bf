-- R10.3, what each event does to the ring: who is inserted, in which order, and along which right
-- links. It is claimed of every list of calls and of any call after it, and cites no proof. What is
-- said of the ring later can go by the event, and need not go by the call. Definitions only.
use Rattle.std.specs.Prelude.{◌≡◌, ◌⊎◌, ◌↔◌, ◌≢◌, ℕ, T, Some}
use mathlib.Core.List.{List, [], ◌∷◌, ◌++◌, Memᴰ}
use Rattle.interval.specs.Interval.{between}
use Rattle.links.specs.Ring.{Ring, with_member, without_member}
use Rattle.protocol.specs.declared.Call.{Call}
use Rattle.protocol.specs.State.{State, key_at, right_at}
use Rattle.protocol.specs.Events.{Event, stays, founded, admitted, released, emptied}
use Rattle.protocol.specs.History.{happened, history}
use Rattle.protocol.specs.Claim.{Inserted}

-- ---- the order of the inserted nodes
-- R10.3: L lists the inserted nodes, ascending by key; each has a right link to the next of L, and
-- the last one to the first
pub record Ordered (s : State) (L : List ℕ) : Type 0 where
  pub ring : Ring (key_at s) (right_at s) L
  pub members : (u : ℕ) → Memᴰ u L ↔ Inserted s u

-- R10.3: there is one such list, and no other
pub record OneOrder (s : State) : Type 0 where
  pub order : List ℕ
  pub ordered : Ordered s order
  pub only : (L : List ℕ) → Ordered s L → L ≡ order

-- R10.3: after any list of calls
abbrev pub OrderClaim : Type 0
OrderClaim = (calls : List Call) → OneOrder (history calls).state

-- ---- what each event did, from the network s before the call to the network s' after it
-- R10.3, it stays: nobody came or went, and nobody was relinked
pub record Stays (s s' : State) : Type 0 where
  pub inserted : (u : ℕ) → Inserted s' u ↔ Inserted s u
  pub keys : (u : ℕ) → Inserted s u → key_at s' u ≡ key_at s u
  pub rights : (u : ℕ) → Inserted s u → right_at s' u ≡ right_at s u
  pub order : (L : List ℕ) → Ordered s L → Ordered s' L

-- R10.3, u founds the ring: nobody was inserted, and now u alone is, with a right link to itself
pub record Founds (s s' : State) (u : ℕ) : Type 0 where
  pub none_before : (w : ℕ) → ¬ Inserted s w
  pub inserted : (w : ℕ) → Inserted s' w ↔ (w ≡ u)
  pub key : key_at s' u ≡ key_at s u
  pub right : right_at s' u ≡ Some u
  pub order_before : Ordered s []
  pub order : Ordered s' (u ∷ [])

-- R10.3, v is admitted: it came between p and the node that p linked to
pub record Admits (s s' : State) (v p : ℕ) : Type 0 where
  pub next : ℕ
  pub new : ¬ Inserted s v
  pub behind : Inserted s p
  pub right_before : right_at s p ≡ Some next
  pub between_keys : T (between (key_at s p) (key_at s next) (key_at s v))
  pub inserted : (u : ℕ) → Inserted s' u ↔ (Inserted s u ⊎ (u ≡ v))
  pub keys : (u : ℕ) → Inserted s' u → key_at s' u ≡ key_at s u
  pub right_of_p : right_at s' p ≡ Some v
  pub right_of_v : right_at s' v ≡ Some next
  pub rights : (u : ℕ) → Inserted s u → u ≢ p → right_at s' u ≡ right_at s u
  pub order : (L : List ℕ) → Ordered s L → Ordered s' (with_member (key_at s) v L)

-- R10.3, v is released: it went from between p, which linked to it, and the node that v linked to
pub record Releases (s s' : State) (v p : ℕ) : Type 0 where
  pub next : ℕ
  pub leaver : Inserted s v
  pub behind : Inserted s p
  pub differ : p ≢ v
  pub right_before : right_at s p ≡ Some v
  pub right_of_v : right_at s v ≡ Some next
  pub inserted : (u : ℕ) → Inserted s' u ↔ (Inserted s u × (u ≢ v))
  pub keys : (u : ℕ) → Inserted s u → key_at s' u ≡ key_at s u
  pub right_of_p : right_at s' p ≡ Some next
  pub rights : (u : ℕ) → Inserted s u → u ≢ p → right_at s' u ≡ right_at s u
  pub order : (L : List ℕ) → Ordered s L → Ordered s' (without_member v L)

-- R10.3, u empties the ring: u alone was inserted, and now nobody is
pub record Empties (s s' : State) (u : ℕ) : Type 0 where
  pub alone_before : (w : ℕ) → Inserted s w ↔ (w ≡ u)
  pub right_before : right_at s u ≡ Some u
  pub none : (w : ℕ) → ¬ Inserted s' w
  pub order_before : Ordered s (u ∷ [])
  pub order : Ordered s' []

-- R10.3: each event did what is said of it
abbrev pub Happened : State → State → Event → Type 0
Happened s s' stays = Stays s s'
Happened s s' (founded u) = Founds s s' u
Happened s s' (admitted v p) = Admits s s' v p
Happened s s' (released v p) = Releases s s' v p
Happened s s' (emptied u) = Empties s s' u

-- R10.3: after any list of calls, of any next call
abbrev pub EventClaim : Type 0
EventClaim = (calls : List Call) (call : Call) → Happened (history calls).state (history (calls ++ call ∷ [])).state (happened (history calls) call)

-- ---- the order goes by the event alone
-- R10.3: the order that an event leaves
abbrev pub order_after : (ℕ → ℕ) → List ℕ → Event → List ℕ
order_after key L stays = L
order_after key L (founded u) = u ∷ []
order_after key L (admitted v p) = with_member key v L
order_after key L (released v p) = without_member v L
order_after key L (emptied u) = []

-- R10.3: after any list of calls and any next call, it is the order of the inserted nodes
abbrev pub OrderGoesByEvents : Type 0
OrderGoesByEvents = (calls : List Call) (call : Call) (L : List ℕ) → Ordered (history calls).state L
    → Ordered (history (calls ++ call ∷ [])).state (order_after (key_at (history calls).state) L (happened (history calls) call))
