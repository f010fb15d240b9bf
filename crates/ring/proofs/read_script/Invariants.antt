-- The bytes read so far lie within the buffer.
use Rattle.std.proofs.Common.{length, ◌≤◌}
use Rattle.ring.proofs.read_script.Given as goal

abbrev pub invariant-loop : goal.invariant-loop
invariant-loop g l = l.size ≤ length l.script
