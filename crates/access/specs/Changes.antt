-- No rules stand here: it is what a change makes of a network's arrays, a node in its place, one
-- node more, messages at the end, a gap closed. What this makes of the lists that the arrays hold
-- is proved in `proofs/`. Definitions only.
use Rattle.std.specs.Prelude.{ℕ, ◌+◌, ◌-◌, Bool, true, ◌&&◌, cond, List, [], ◌∷◌, ◌++◌, length, set, take, drop, ltb, leb}
use Rattle.node.specs.declared.Node.{Node}
use Rattle.parts.specs.declared.Message.{Message}
use Rattle.node.specs.Shape.{capacity}
use Rattle.parts.specs.Posts.{posted as listed}
use Rattle.protocol.specs.State.{queue_limit}
use Rattle.protocol.specs.Calls.{without}
use Rattle.network.specs.declared.Network.{Network}
use Rattle.network.specs.Arrays.{vacant_message}
use Rattle.access.specs.declared.Change.{Change}
use Rattle.access.specs.declared.Change.TheVariants.{Add, Step, Deliver}

-- ---- what is written
-- node u as it is now
abbrev pub placed : Network → ℕ → Node → Network
placed n u node = record { nodes = set n.nodes u node; count = n.count; messages = n.messages; waiting = n.waiting }

-- one node more
abbrev pub added : Network → Node → Network
added n node = record { nodes = set n.nodes n.count node; count = n.count + 1; messages = n.messages; waiting = n.waiting }

-- the message at a place taken out, and the gap closed
abbrev pub closed : Network → ℕ → Network
closed n place = record {
  nodes = n.nodes;
  count = n.count;
  messages = without place (take n.waiting n.messages) ++ vacant_message ∷ drop n.waiting n.messages;
  waiting = n.waiting - 1;
}

-- messages put behind the first so many, in their order
abbrev pub queued : List Message → ℕ → List Message → List Message
queued l waiting [] = l
queued l waiting (m ∷ ms) = queued (set l waiting m) (waiting + 1) ms

abbrev pub all_posted : Network → List Message → Network
all_posted n ms = record { nodes = n.nodes; count = n.count; messages = queued n.messages n.waiting ms; waiting = n.waiting + length ms }

-- ---- a change, with its posts as a list
pub data Written : Type 0 where
  nothing : Written
  adds : Node → Written
  steps : ℕ → Node → List Message → Written
  delivers : ℕ → ℕ → Node → List Message → Written

abbrev pub written : Change → Written
written (Add node) = adds node
written (Step number node posts) = steps number node (listed posts)
written (Deliver place number node posts) = delivers place number node (listed posts)

-- whether it finds room in the arrays of a network with so many nodes and messages
abbrev pub fits : ℕ → ℕ → Written → Bool
fits count waiting nothing = true
fits count waiting (adds node) = ltb count capacity
fits count waiting (steps number node ms) = ltb number capacity && leb (waiting + length ms) queue_limit
fits count waiting (delivers place number node ms) = ltb number capacity && (ltb place waiting && (leb waiting queue_limit && leb (waiting - 1 + length ms) queue_limit))

abbrev pub carried : Network → Written → Network
carried n nothing = n
carried n (adds node) = added n node
carried n (steps number node ms) = all_posted (placed n number node) ms
carried n (delivers place number node ms) = all_posted (placed (closed n place) number node) ms

-- a change that finds no room is none
unfoldable pub committed : Network → Written → Network
committed n w = cond (fits n.count n.waiting w) (carried n w) n
