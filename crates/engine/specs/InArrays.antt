-- What a record does to a network in arrays: 6 where it is not well formed, and else what it does
-- to the lists that the arrays hold, in arrays again. Definitions only.
use Rattle.std.specs.Prelude.{cond}
use Rattle.refusal.specs.Code.{plain}
use Rattle.network.specs.declared.Network.{Network}
use Rattle.network.specs.Arrays.{live, well_formed}
use Rattle.engine.specs.Outcomes.{Applied, refused, in_arrays}
use Rattle.script.specs.declared.Record.{Record}
use Rattle.course.specs.Execution.{execute_of as execute_on_lists}

-- R9.6: 6 is the first refusal of every record
unfoldable pub execute_of : Network → Record → Applied
execute_of n asked = cond (well_formed n) (in_arrays (execute_on_lists (live n) asked)) (refused n (plain 6))
