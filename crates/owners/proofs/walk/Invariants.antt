-- `owners::walk` meets its contract: from where the walk stands, with the hops left to make, the
-- owner is the same as from its start. Assumes nothing.
use mathlib.Core.Path.{◌≡◌}
use Rattle.owners.specs.Owners.{walk_from}
use Rattle.owners.proofs.TurnLaws.{standing}
use Rattle.owners.proofs.walk.Given as goal

abbrev pub invariant-loop-hops : goal.invariant-loop-hops
invariant-loop-hops l = standing l.network l.serial l.node l.hops ≡ walk_from l.network l.serial l.network.count l.start 0
