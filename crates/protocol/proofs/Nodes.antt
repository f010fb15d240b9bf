-- The nodes as a function of their numbers: with one of them set anew, and with one declared, all
-- others stand as they were. Assumes nothing.
use mathlib.Core.Path.{◌≡◌, ap, sym, ◌∙◌}
use mathlib.Core.Logic.{◌≢◌}
use mathlib.Core.List.{List, [], ◌∷◌}
use Prim.Native.Nat.{ℕ, ◌≤◌, ◌<◌}
use native.Mathlib.Omega.{arith}
use native.Mathlib.Decide.{dec_lt, ℕ_discrete}
use lib.ListN.{length, length-append, set, get_or, get_or-eq_default, get_or-append}
use lib.Seq.{get_or-set_same, get_or-set_other, get_or-append_seam}
use Rattle.parts.specs.declared.Status.TheVariants.{Out}
use Rattle.node.specs.declared.Node.{Node}
use Rattle.node.specs.Shape.{declared_of}
use Rattle.protocol.specs.State.{State, node_at, status_at}
use Rattle.protocol.specs.Calls.{declaring}
use Rattle.protocol.proofs.Fields.{status_of}

-- ---- node i stands as x, all others as they were
pub record At (N : ℕ → Node) (i : ℕ) (x : Node) (N' : ℕ → Node) : Type 0 where
  pub self : N' i ≡ x
  pub others : (u : ℕ) → u ≢ i → N' u ≡ N u

-- what x has as node i had it, every node has as it had it
pub unchanged : {N N' : ℕ → Node} {i : ℕ} {x : Node} {B : Type 0} → At N i x N' → (f : Node → B) → f x ≡ f (N i) → (u : ℕ) → f (N' u) ≡ f (N u)
unchanged {N} {N'} {i} at f e u = go (ℕ_discrete u i)
  where
    go : Dec (u ≡ i) → f (N' u) ≡ f (N u)
    go (yes d) = rw d (ap f at.self ∙ e)
    go (no d) = ap f (at.others u d)

-- ---- the nodes of a list, by their numbers
abbrev pub listed : List Node → ℕ → Node
listed nodes u = get_or nodes u (declared_of 0)

pub set_at : (nodes : List Node) {i : ℕ} {x : Node} → i < length nodes → At (listed nodes) i x (listed (set nodes i x))
set_at nodes {i} {x} h = record { self = get_or-set_same nodes i x (declared_of 0) h; others = λ u d. get_or-set_other nodes i u x (declared_of 0) d }

pub past : (s : State) (u : ℕ) → length s.nodes ≤ u → node_at s u ≡ declared_of 0
past s u le = get_or-eq_default s.nodes (declared_of 0) le

-- past the last one there is only what is out
pub declared_unless_out : (s : State) (u : ℕ) → status_at s u ≢ Out → u < length s.nodes
declared_unless_out s u d = go (dec_lt u (length s.nodes))
  where
    go : Dec (u < length s.nodes) → u < length s.nodes
    go (yes k) = k
    go (no k) = absurd (d (ap status_of (past s u (omega arith))))

pub declared-at : (s : State) (key : ℕ) → At (node_at s) (length s.nodes) (declared_of key) (node_at (declaring s key).state)
declared-at s key = record { self = get_or-append_seam s.nodes (declared_of key) [] (declared_of 0); others = λ u d. go u d (dec_lt u (length s.nodes)) }
  where
    go : (u : ℕ) → u ≢ length s.nodes → Dec (u < length s.nodes) → node_at (declaring s key).state u ≡ node_at s u
    go u d (yes k) = get_or-append s.nodes (declared_of key ∷ []) (declared_of 0) u k
    go u d (no k) = past (declaring s key).state u (omega (arith, length-append s.nodes (declared_of key ∷ []))) ∙ sym (past s u (omega arith))
