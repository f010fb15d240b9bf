-- R1.9, R11.3: what the code posts in a step, read as the list of its messages in their order.
-- Definitions only.
use Rattle.std.specs.Prelude.{List, [], ◌∷◌}
use Rattle.parts.specs.declared.Message.{Message}
use Rattle.parts.specs.declared.Posts.{Posts}
use Rattle.parts.specs.declared.Posts.TheVariants.{Nothing, One, Two}

abbrev pub posted : Posts → List Message
posted Nothing = []
posted (One m) = m ∷ []
posted (Two m n) = m ∷ n ∷ []
