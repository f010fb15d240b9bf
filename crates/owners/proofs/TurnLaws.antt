-- What the loop needs: each turn of the walk along right links is the definition's own step.
-- Assumes nothing.
use Rattle.std.specs.Prelude.{Some}
use mathlib.Core.Path.{◌≡◌, ap, ◌∙◌}
use mathlib.Core.Bool.{Bool, true, false, cond}
use Prim.Native.Nat.{ℕ, suc, ◌+◌, ◌-◌, ◌<◌}
use native.Mathlib.Omega.{arith}
use native.Mathlib.Numerals.{add-one}
use Rattle.interval.specs.Interval.{within}
use Rattle.parts.specs.Tests.{Link}
use Rattle.protocol.specs.Questions.{Walk, found}
use Rattle.network.specs.declared.Network.{Network}
use Rattle.network.specs.Reads.{node_in}
use Rattle.owners.specs.Owners.{walk_at, walk_from}

-- what comes of it where it stands at node u after some hops
abbrev pub standing : Network → ℕ → ℕ → ℕ → Walk
standing n serial u hops = walk_from n serial (n.count - hops) u hops

module _ (n : Network) (serial u hops : ℕ) (more : hops < n.count) where
  -- what the link leads to
  followed : (link : Link) → (node_in n u).right ≡ link → standing n serial u hops ≡ walk_at n serial u hops link (λ q. standing n serial q (suc hops))
  followed link e =
      let one_less : n.count - hops ≡ suc (n.count - suc hops) = omega arith in
      ap (λ (left : ℕ). walk_from n serial left u hops) one_less
      ∙ ap (λ (x : Link). walk_at n serial u hops x (λ q. standing n serial q (suc hops))) e

  module _ (q : ℕ) (e : (node_in n u).right ≡ Some q) where
    pub owner_found : within (node_in n u).key (node_in n q).key serial ≡ true → standing n serial u hops ≡ found u hops
    owner_found w = followed (Some q) e ∙ ap (λ (b : Bool). cond b (found u hops) (standing n serial q (suc hops))) w

    pub goes_on : within (node_in n u).key (node_in n q).key serial ≡ false → standing n serial u hops ≡ standing n serial q (hops + 1)
    goes_on w = rw add-one (followed (Some q) e ∙ ap (λ (b : Bool). cond b (found u hops) (standing n serial q (suc hops))) w)
