-- No rules stand here: it is what a search of a network's nodes and messages tells, for every
-- network. Definitions only.
use Rattle.std.specs.Prelude.{ℕ, Bool, false, not, eqb}
use Rattle.predicates.specs.Tests.{any}
use Rattle.parts.specs.Tests.{is_out}
use Rattle.protocol.specs.declared.Order.{Order}
use Rattle.protocol.specs.declared.Order.TheVariants.{Declare, Create, Join, Leave}
use Rattle.protocol.specs.State.{notice_waits as notice_waits_in_lists}
use Rattle.network.specs.declared.Network.{Network}
use Rattle.network.specs.Arrays.{live}
use Rattle.searches.specs.declared.Found.{Found}

abbrev pub key_is_taken : Network → ℕ → Bool
key_is_taken n key = any (λ node. eqb node.key key) (live n).nodes

abbrev pub some_stands : Network → Bool
some_stands n = any (λ node. not (is_out node.status)) (live n).nodes

abbrev pub notice_waits : Network → ℕ → Bool
notice_waits n u = notice_waits_in_lists (live n) u

abbrev pub nothing_found : Found
nothing_found = record { taken = false; standing = false; notice = false }

abbrev pub found_of : Network → Order → Found
found_of n (Declare key) = record { taken = key_is_taken n key; standing = false; notice = false }
found_of n (Create u) = record { taken = false; standing = some_stands n; notice = notice_waits n u }
found_of n (Join u p q) = record { taken = false; standing = false; notice = notice_waits n u }
found_of n (Leave u) = nothing_found
