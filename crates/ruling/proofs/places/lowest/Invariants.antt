-- `ruling::places::lowest` meets its contract: what is still to be searched has the same answer as
-- the whole. Assumes nothing.
use Prim.Native.Nat.{◌-◌}
use mathlib.Core.Path.{◌≡◌}
use Rattle.ruling.specs.Places.{lowest_place_from, lowest_place}
use Rattle.ruling.proofs.places.lowest.Given as goal

abbrev pub invariant-loop-place : goal.invariant-loop-place
invariant-loop-place l = lowest_place l.network ≡ lowest_place_from l.network l.place (l.network.waiting - l.place)
