-- R8.4, what a drain with no limit comes to on the arrays of any well-formed network, ring or not:
-- nothing waits. It is stated in full, and cites no proof. Definitions only.
use Rattle.std.specs.Prelude.{◌≡◌, ◌≤◌, length, T}
use Rattle.refusal.specs.Rules.{done}
use Rattle.protocol.specs.declared.Reply.TheVariants.{Ran}
use Rattle.protocol.specs.State.{load}
use Rattle.protocol.specs.Drain.{places}
use Rattle.network.specs.declared.Network.{Network}
use Rattle.network.specs.Arrays.{live, well_formed}
use Rattle.engine.specs.Outcomes.{drain_of}

-- R8.4: of this network, by a drain with budget 0
pub record Emptied (n : Network) : Type 0 where
  pub nothing_waits : (drain_of n 0).network.waiting ≡ 0
  -- its answer is the deliveries made, and that none is left
  pub said : (drain_of n 0).said ≡ done (Ran (length (places 0 (live n))) 0)
  -- R10.9: they are no more than the load
  pub within_load : length (places 0 (live n)) ≤ load (live n).messages

-- R8.4: of every well-formed one
abbrev pub EmptiedClaim : Type 0
EmptiedClaim = (n : Network) → T (well_formed n) → Emptied n
