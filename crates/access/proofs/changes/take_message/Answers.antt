-- `access::changes::take_message` meets its contract: what is copied and then made vacant is the
-- queue that `closed` says. Assumes nothing.
use Rattle.network.specs.Arrays.{vacant_message}
use mathlib.Core.Path.{◌∙◌, ap}
use mathlib.Core.List.{List}
use Prim.Native.Nat.{◌-◌}
use native.Mathlib.Omega.{arith}
use lib.ListN.{set}
use Rattle.parts.specs.declared.Message.{Message}
use Rattle.access.proofs.Shift.{closes}
use Rattle.access.proofs.changes.take_message.Goals as goal

pub returns : goal.returns
returns c =
    let now = c.args.network.now in
    let messages =
    ap (λ (l : List Message). set l (now.waiting - 1) vacant_message) c.copy_within.ensures.after
    ∙ closes now.messages c.args.place now.waiting (omega arith) (omega arith) vacant_message in
    (λ j. record { nodes = now.nodes; count = now.count; messages = messages j; waiting = now.waiting - 1 })
