-- No rules stand here: it is what the code computes on its way, a decision carried out, the next
-- delivery of a drain, and what a task comes to. That this is what the rules say of a well-formed
-- network is proved in `proofs/`. Definitions only.
use Rattle.std.specs.Prelude.{◌≡◌, true, unwrap_or, Result, Ok, Err}
use Rattle.refusal.specs.declared.Refusal.{Refusal}
use Rattle.refusal.specs.Code.{reason}
use Rattle.protocol.specs.declared.Call.TheVariants.{Deliver}
use Rattle.protocol.specs.Drain.{lowest}
use Rattle.network.specs.declared.Network.{Network}
use Rattle.network.specs.Arrays.{live, well_formed}
use Rattle.access.specs.Changes.{committed}
use Rattle.decision.specs.Decided.{Decided}
use Rattle.script.specs.declared.Record.TheVariants as record'
use Rattle.task.specs.declared.Task.{Task}
use Rattle.task.specs.declared.Task.TheVariants as task
use Rattle.engine.specs.Outcomes.{Applied, refused, Counted, apply_of, drain_of}
use Rattle.engine.specs.InArrays.{execute_of}

-- ---- a call
abbrev pub outcome : Network → Decided → Counted
outcome n d = record { network = committed n d.change; posted = d.posted; said = d.said }

-- ---- a drain's next delivery
abbrev pub next_delivery : Network → Applied
next_delivery n = apply_of n (Deliver (unwrap_or (lowest (live n)) 0))

-- what a task comes to, and what it asks of the network
abbrev pub done_on : Network → Result Task Refusal → Applied
done_on n (Err r) = refused n (reason r)
done_on n (Ok (task.Call call)) = apply_of n call
done_on n (Ok (task.Owner start serial)) = execute_of n (record'.Owner start serial)
done_on n (Ok (task.Drain budget)) = drain_of n budget
done_on n (Ok task.Peek) = execute_of n record'.Peek

abbrev pub Allowed : Network → Result Task Refusal → Type 0
Allowed n (Err r) = Unit {0}
Allowed n (Ok (task.Call call)) = well_formed n ≡ true
Allowed n (Ok (task.Owner start serial)) = well_formed n ≡ true
Allowed n (Ok (task.Drain budget)) = well_formed n ≡ true
Allowed n (Ok task.Peek) = well_formed n ≡ true
