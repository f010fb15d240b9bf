-- A node is declared and creates a ring: all that the arrays hold after these two calls on the
-- empty network. It computes. Assumes nothing.
use Rattle.std.specs.Prelude.{Some}
use mathlib.Core.Path.{◌≡◌, refl}
use mathlib.Core.List.{List, [], ◌∷◌}
use lib.ListN.{replicate}
use Rattle.sequence.specs.Sequence.{first_seq, same}
use Rattle.parts.specs.declared.Status.TheVariants.{In}
use Rattle.node.specs.declared.Node.{Node}
use Rattle.node.specs.Shape.{node_fits, well_formed as node_is_sound}
use Rattle.node.specs.Actions.{create_of}
use Rattle.protocol.specs.declared.Call.{Call}
use Rattle.protocol.specs.declared.Order.TheVariants.{Declare, Create}
use Rattle.protocol.specs.declared.Call.TheVariants.{Order}
use Rattle.protocol.specs.State.{well_formed as lists_are_well_formed}
use Rattle.protocol.specs.Calls.{apply_of as apply_to_lists}
use Rattle.network.specs.Arrays.{vacant_node, vacant_message, well_formed, empty}
use Rattle.engine.specs.Outcomes.{apply_of, run}

abbrev pub script : List Call
script = Order (Declare 1_000) ∷ Order (Create 0) ∷ []

-- in, linked to itself on both sides, both numbers 0
abbrev pub lone : Node
lone = record { status = In; key = 1_000; left = Some 0; right = Some 0; lseq = 0; rseq = Some 0 }

pub ring_of_one : run empty script ≡ record { nodes = lone ∷ replicate 31 vacant_node; count = 1; messages = replicate 64 vacant_message; waiting = 0 }
unfolding apply_of well_formed apply_to_lists lists_are_well_formed first_seq same node_fits node_is_sound create_of
ring_of_one = refl
