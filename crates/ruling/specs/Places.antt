-- No rules stand here: it is how the code looks for the place where a drain delivers next. That
-- this is the lowest place where a delivery on a well-formed network is not refused is proved in
-- the crate `engine`. Definitions only.
use Rattle.std.specs.Prelude.{ℕ, zero, suc, Bool, not, ◌||◌, cond, ltb, Option, None, Some}
use Rattle.node.specs.Actions.{would_grant}
use Rattle.protocol.specs.State.{queue_limit}
use Rattle.network.specs.declared.Network.{Network}
use Rattle.access.specs.declared.Arrival.{Arrival}
use Rattle.access.specs.Sights.{arrival_of}

-- whether what arrives would be granted, and whether a delivery there finds room
abbrev pub grantable : Arrival → Bool
grantable a = would_grant a.node a.message.sender a.message.kind

abbrev pub finds_room : Network → ℕ → Bool
finds_room n place = ltb n.waiting queue_limit || not (grantable (arrival_of n place))

-- the first of the k places from `place` on where it does
abbrev pub lowest_place_from : Network → ℕ → ℕ → Option ℕ
lowest_place_from n place zero = None
lowest_place_from n place (suc k) = cond (finds_room n place) (Some place) (lowest_place_from n (suc place) k)

abbrev pub lowest_place : Network → Option ℕ
lowest_place n = lowest_place_from n 0 n.waiting
