-- No rules stand here: it is what the walks of the well-formedness test compute. That they come to the
-- clauses of well-formedness is proved in `proofs/`. Definitions only.
use Rattle.std.specs.Prelude.{ℕ, List, Bool, Some, None, not, ◌&&◌, take, get_or, eqb, leb}
use Rattle.predicates.specs.Tests.{count, every}
use Rattle.parts.specs.declared.Kind.{Kind}
use Rattle.parts.specs.declared.Kind.TheVariants.{SetR, SetRAck, SetRNak, SetL}
use Rattle.parts.specs.declared.Message.{Message}
use Rattle.parts.specs.Tests.{Link}
use Rattle.node.specs.declared.Node.{Node}
use Rattle.node.specs.Shape.{declared_of}
use Rattle.protocol.specs.State.{State, key_is_new, status_at, is_exchange_of, exchanges}

-- whose exchange a message is: the sender's of a request, the addressee's of an answer
abbrev pub party_by : Kind → Message → Link
party_by (SetR new expected number) m = Some m.sender
party_by (SetRAck number) m = Some m.to
party_by SetRNak m = Some m.to
party_by (SetL left number) m = None

-- a node among all, which has so many exchanges: whether its key is its own, and these are no more
-- than it may have
abbrev pub fits_with : List Node → ℕ → ℕ → Bool
fits_with nodes counted u =
    every (λ other. not (eqb other.key (get_or nodes u (declared_of 0)).key)) (take u nodes)
    && leb counted (exchanges (get_or nodes u (declared_of 0)).status)

-- the same, with the exchanges that wait
abbrev pub fits_beside : State → ℕ → Bool
fits_beside s u = key_is_new s u && leb (count (is_exchange_of u) s.messages) (exchanges (status_at s u))
