-- `engine::printing::run` meets its contract: at each turn it has come as far as the definition after
-- as many records (`LoopLaws`). The measure is what is left of the script. Assumes nothing.
use Prim.Native.Nat.{◌-◌}
use lib.ListN.{length}
use Rattle.engine.proofs.LoopLaws.{Turn}
use Rattle.engine.proofs.printing.run.Given as goal

abbrev pub invariant-loop-p : goal.invariant-loop-p
invariant-loop-p l = Turn l.script record { kept = l.kept; text = l.text; progress = l.p }

abbrev pub decreases-loop-p : goal.decreases-loop-p
decreases-loop-p l = length l.script - l.p.at
