-- The arrays of a network that a function is handed have 32 and 64 places: it is part of what
-- owning a value of the type says. Assumes nothing.
use mathlib.Core.Path.{◌≡◌}
use mathlib.Core.List.{List}
use lib.ListN.{length}
use mir.Val.{Val}
use denote.Laws.{Is}
use denote.Struct.Declared.{row}
use Rattle.node.specs.Shape.{capacity}
use Rattle.protocol.specs.State.{queue_limit}
use Rattle.network.specs.declared.Network.{Network}
use Rattle.network.specs.contracts.Network.{the_type}

pub record Lengths (n : Network) : Type 0 where
  pub nodes : length n.nodes ≡ capacity
  pub messages : length n.messages ≡ queue_limit

pub lengths : (n : Network) (vs : List Val) → Is (row the_type) n vs → Lengths n
lengths n vs owned = record { nodes = owned.1.1.0.1.0.1; messages = owned.1.1.1.1.0.1.0.1 }
