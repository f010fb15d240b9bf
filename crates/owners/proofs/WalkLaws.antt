-- The walk in a well-formed network is the walk in its lists: each number that is met is below the
-- count. By going down the hops left to make. Assumes nothing.
use Rattle.std.specs.Prelude.{Some, None}
use mathlib.Core.Path.{◌≡◌, refl, ap, ◌∙◌}
use mathlib.Core.Bool.{true, cond}
use Prim.Native.Nat.{ℕ, zero, suc, ◌<◌}
use lib.ListN.{length}
use Rattle.interval.specs.Interval.{within}
use Rattle.parts.specs.Tests.{Link}
use Rattle.node.specs.declared.Node.{Node}
use Rattle.protocol.specs.Questions.{Walk, found, owner_at, owner_from}
use Rattle.network.specs.declared.Network.{Network}
use Rattle.network.specs.Arrays.{live, well_formed}
use Rattle.network.proofs.Lengths.{Lengths}
use Rattle.network.proofs.LiveLaws.{nodes-length, node_read, right_declared}
use Rattle.network.specs.Reads.{node_in}
use Rattle.owners.specs.Owners.{walk_at, walk_from}

module _ (n : Network) (l : Lengths n) (h : well_formed n ≡ true) where
  -- at a node that is declared, by its right link, which names a node that is declared
  walk_at_lem : (serial u hops : ℕ) (link : Link) (f g : ℕ → Walk) → u < n.count → (node_in n u).right ≡ link → ((q : ℕ) → q < n.count → f q ≡ g q)
      → walk_at n serial u hops link f ≡ owner_at (live n) serial u hops link g
  walk_at_lem serial u hops None f g k e same = refl
  walk_at_lem serial u hops (Some q) f g k e same =
      let there = right_declared n l h u q k e in
      λ i. cond (within (node_read n l h u k i).key (node_read n l h q there i).key serial) (found u hops) (same q there i)

  walk-left : (serial left u hops : ℕ) → u < n.count → walk_from n serial left u hops ≡ owner_from (live n) serial left u hops
  walk-left serial zero u hops k = refl
  walk-left serial (suc left) u hops k =
      walk_at_lem serial u hops (node_in n u).right (λ q. walk_from n serial left q (suc hops)) (λ q. owner_from (live n) serial left q (suc hops)) k refl (λ q j. walk-left serial left q (suc hops) j)
      ∙ ap (λ (node : Node). owner_at (live n) serial u hops node.right (λ q. owner_from (live n) serial left q (suc hops))) (node_read n l h u k)

  pub walk-live : (serial start : ℕ) → start < n.count → walk_from n serial n.count start 0 ≡ owner_from (live n) serial (length (live n).nodes) start 0
  walk-live serial start k = rw (nodes-length n l h) (walk-left serial n.count start 0 k)
