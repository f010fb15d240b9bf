-- The clauses of a network's well-formedness, as the code tests them: on the first so many places of
-- each array, as many as it has, and on the rest of it. Assumes nothing.
use mathlib.Core.Path.{◌≡◌, refl, sym, ap, ◌∙◌}
use mathlib.Core.Bool.{Bool, true, false, not, ◌&&◌, and_comm}
use mathlib.Core.List.{List, [], ◌∷◌}
use Prim.Native.Nat.{ℕ, zero, suc, ◌-◌, ◌≤◌, ◌<◌}
use native.Mathlib.Omega.{arith}
use lib.ListN.{length, get_or, take, drop, length-take, length-drop}
use lib.Seq.{take-length}
use lib.Dec.{leb, eqb}
use borrow.Author.Tests.{le-leb}
use Rattle.predicates.specs.Tests.{count, every, every_below}
use Rattle.predicates.proofs.TestLaws.{below_both}
use Rattle.parts.specs.Shape.{message_fits}
use Rattle.node.specs.declared.Node.{Node}
use Rattle.node.specs.Shape.{declared_of, node_fits, capacity}
use Rattle.protocol.specs.State.{State, queue_limit, node_at, is_exchange_of, exchanges, node_is_well_formed, well_formed as lists_are_well_formed}
use Rattle.network.specs.declared.Network.{Network}
use Rattle.network.specs.Arrays.{is_vacant_node, is_vacant_message, live, well_formed}
use Rattle.network.specs.Walks.{fits_beside, fits_with}
use Rattle.network.proofs.Lengths.{Lengths}
use Rattle.network.proofs.Places.{every-below, every_element}

-- one node among the others, with so many exchanges
pub node-read : (nodes : List Node) (counted u : ℕ) (node : Node) → node ≡ get_or nodes u (declared_of 0)
    → (every (λ other. not (eqb other.key node.key)) (take u nodes) && leb counted (exchanges node.status)) ≡ fits_with nodes counted u
node-read nodes counted u node same =
    ap (λ (x : Node). every (λ other. not (eqb other.key x.key)) (take u nodes) && leb counted (exchanges x.status)) same

-- and where they are those that wait
pub node-tested : (s : State) (u counted : ℕ) → u < length s.nodes → counted ≡ count (is_exchange_of u) s.messages → fits_with s.nodes counted u ≡ fits_beside s u
node-tested s u counted k e = rw (e, every-below (λ (other : Node). not (eqb other.key (node_at s u).key)) (declared_of 0) s.nodes u (omega arith)) refl

-- every node, first by itself and then among the others
pub nodes-tested : (s : State) → (every (node_fits (length s.nodes)) s.nodes && every_below (length s.nodes) (fits_beside s)) ≡ every_below (length s.nodes) (node_is_well_formed s)
nodes-tested s =
    ap (λ (b : Bool). b && every_below (length s.nodes) (fits_beside s)) (sym (every_element (node_fits (length s.nodes)) (declared_of 0) s.nodes))
    ∙ sym (below_both (length s.nodes) (λ u. node_fits (length s.nodes) (node_at s u)) (fits_beside s))

-- what is left of an array of m places behind its first elements, as a slice of it
pub rest : {A : Type 0} (l : List A) (n m : ℕ) → length l ≡ m → take (m - length (take n l)) (drop (length (take n l)) l) ≡ drop n l
rest l n m size =
    let all : m - length (take n l) ≡ length (drop n l) = rw (length-drop, length-take) (omega (arith, size)) in
    rw (drop-taken l n, all) (take-length (drop n l))
  where
    drop-taken : {A : Type 0} (l : List A) (n : ℕ) → drop (length (take n l)) l ≡ drop n l
    drop-taken [] zero = refl
    drop-taken [] (suc n) = refl
    drop-taken (x ∷ l) zero = refl
    drop-taken (x ∷ l) (suc n) = drop-taken l n

regroup : (f m s : Bool) → ((f && m) && s) ≡ ((f && s) && m)
regroup false m s = refl
regroup true m s = and_comm m s

-- what nodes and messages are by themselves, asked before what the nodes are among the others
pub lists-tested : (s : State) → ((every (node_fits (length s.nodes)) s.nodes && every (message_fits (length s.nodes)) s.messages) && every_below (length s.nodes) (fits_beside s))
    ≡ (every_below (length s.nodes) (node_is_well_formed s) && every (message_fits (length s.nodes)) s.messages)
lists-tested s =
    regroup (every (node_fits (length s.nodes)) s.nodes) (every (message_fits (length s.nodes)) s.messages) (every_below (length s.nodes) (fits_beside s))
    ∙ ap (λ (b : Bool). b && every (message_fits (length s.nodes)) s.messages) (nodes-tested s)

-- past the limits
pub past-limits : (n : Network) → (leb n.count capacity && leb n.waiting queue_limit) ≡ false → well_formed n ≡ false
unfolding well_formed
past-limits n h = rw h refl

-- the lists in the arrays are within the limits, so that these need no test
pub well-formed-tested : (n : Network) → Lengths n
    → ((leb n.count capacity && leb n.waiting queue_limit)
    && ((every is_vacant_node (drop n.count n.nodes) && every is_vacant_message (drop n.waiting n.messages))
    && (every_below (length (live n).nodes) (node_is_well_formed (live n)) && every (message_fits (length (live n).nodes)) (live n).messages)))
    ≡ well_formed n
unfolding well_formed lists_are_well_formed
well-formed-tested n l =
    let nodes : length (live n).nodes ≤ capacity = rw length-take (omega (arith, l.nodes)) in
    let messages : length (live n).messages ≤ queue_limit = rw length-take (omega (arith, l.messages)) in
    rw (le-leb _ _ nodes, le-leb _ _ messages) refl
