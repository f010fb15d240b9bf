-- No rules stand here: it is what the code computes on a network's arrays, for every network, where
-- it is asked which node owns a serial. What this comes to on the lists of a well-formed network is
-- proved in `proofs/`. Definitions only.
use Rattle.std.specs.Prelude.{ℕ, zero, suc, cond, ltb, Some, None, Result, Ok, Err}
use Rattle.refusal.specs.Code.{plain}
use Rattle.refusal.specs.Rules.{Coded, no}
use Rattle.serial.specs.declared.SerialError.{SerialError}
use Rattle.serial.specs.declared.SerialError.TheVariants.{BadDigit, TooLarge}
use Rattle.serial.specs.Serial.{in_range}
use Rattle.interval.specs.Interval.{within}
use Rattle.parts.specs.Tests.{Link}
use Rattle.protocol.specs.declared.Reply.{Reply}
use Rattle.protocol.specs.Questions.{Walk, found, lost, walked}
use Rattle.network.specs.declared.Network.{Network}
use Rattle.network.specs.Reads.{node_in}
use Rattle.members.specs.Members.{member_in}

-- ---- the walk to an owner: at node u, after some hops, by its right link; and with so many hops
-- left to make
abbrev pub walk_at : Network → ℕ → ℕ → ℕ → Link → (ℕ → Walk) → Walk
walk_at n serial u hops None beyond = lost
walk_at n serial u hops (Some q) beyond = cond (within (node_in n u).key (node_in n q).key serial) (found u hops) (beyond q)

abbrev pub walk_from : Network → ℕ → ℕ → ℕ → ℕ → Walk
walk_from n serial zero u hops = lost
walk_from n serial (suc left) u hops = walk_at n serial u hops (node_in n u).right (λ q. walk_from n serial left q (suc hops))

-- ---- the owner, by tests in the order of the rules; and as a record asks it, whose serial may be
-- refused at its turn
abbrev pub if_declared : Network → ℕ → Coded Reply → Coded Reply
if_declared n start said = cond (ltb start n.count) said (no (plain 5))

abbrev pub owner_in : Network → ℕ → ℕ → Coded Reply
owner_in n start serial =
    if_declared n start (cond (in_range serial) (cond (member_in n start) (walked (walk_from n serial n.count start 0)) (no (plain 30))) (no (plain 4)))

abbrev pub owner_asked : Network → ℕ → Result ℕ SerialError → Coded Reply
owner_asked n start (Ok serial) = owner_in n start serial
owner_asked n start (Err BadDigit) = if_declared n start (no (plain 3))
owner_asked n start (Err TooLarge) = if_declared n start (no (plain 4))
