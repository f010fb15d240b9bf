-- `engine::in_place::deliver` meets its contract: where the queue is not full the first place is the
-- lowest one, and else the one that is searched for (`DrainLaws`). Assumes nothing.
use mathlib.Core.Path.{◌≡◌, sym, ap, ◌∙◌}
use Rattle.std.specs.Prelude.{ℕ, Option, unwrap_or}
use Rattle.protocol.specs.declared.Call.TheVariants.{Deliver}
use Rattle.protocol.specs.Drain.{lowest}
use Rattle.network.specs.Arrays.{live}
use Rattle.network.proofs.Lengths.{Lengths}
use Rattle.engine.specs.Outcomes.{counted, apply_of}
use Rattle.engine.proofs.DrainLaws.{first-is-lowest, lowest-is}
use Rattle.engine.proofs.in_place.deliver.Goals as goal
use Rattle.engine.proofs.in_place.deliver.Goals.{then-network-lt-QUEUE_LIMIT, else-network-lt-QUEUE_LIMIT}

pub returns : goal.returns
returns c =
    let n = c.args.network.now in
    let sizes : Lengths n = record { nodes = c.sizes.ensures.nodes; messages = c.sizes.ensures.messages } in
    let or_first = λ (o : Option ℕ). unwrap_or o 0 in
    let at : unwrap_or (lowest (live n)) 0 ≡ c.if-network-lt-QUEUE_LIMIT.place = elim c.if-network-lt-QUEUE_LIMIT.branch [
      | then-network-lt-QUEUE_LIMIT w ↦ ap or_first (first-is-lowest n sizes c.requires.0 c.requires.1 w.if-network-lt-QUEUE_LIMIT.true) ∙ sym w.place-is
      | else-network-lt-QUEUE_LIMIT w ↦ ap or_first (lowest-is n sizes c.requires.0 ∙ sym w.lowest.ensures) ∙ sym w.unwrap_or-place.ensures ∙ sym w.place-is
    ] in
    c.act.ensures ∙ ap (λ place. counted (apply_of n (Deliver place))) (sym at)
