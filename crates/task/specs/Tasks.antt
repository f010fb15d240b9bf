-- No rules stand here: it is how the code takes a record of a script, or what could not be read, as
-- a task. What a task comes to on a network is said in the crate `engine`. Definitions only.
use Rattle.std.specs.Prelude.{ℕ, ◌≡◌, Result, Ok, Err}
use Rattle.refusal.specs.declared.Refusal.{Refusal}
use Rattle.refusal.specs.declared.Refusal.TheVariants.{CutShort}
use Rattle.refusal.specs.Code.{reason}
use Rattle.serial.specs.declared.SerialError.{SerialError}
use Rattle.serial.specs.Serial.{refusal_of}
use Rattle.protocol.specs.declared.Order.TheVariants.{Declare}
use Rattle.protocol.specs.declared.Call.TheVariants.{Order}
use Rattle.script.specs.declared.Record.{Record}
use Rattle.script.specs.declared.Record.TheVariants as record'
use Rattle.script.specs.Script.{Read, end, stop, next}
use Rattle.task.specs.declared.Asked.{Asked}
use Rattle.task.specs.declared.Task.{Task}
use Rattle.task.specs.declared.Task.TheVariants as task

-- a declaration, or the refusal of its serial
abbrev pub declaring : Result ℕ SerialError → Result Task Refusal
declaring (Ok key) = Ok (task.Call (Order (Declare key)))
declaring (Err e) = Err (refusal_of e)

abbrev pub task_of : Record → Result Task Refusal
task_of (record'.Call call) = Ok (task.Call call)
task_of (record'.Declare serial) = declaring serial
task_of (record'.Owner start serial) = Ok (task.Owner start serial)
task_of (record'.Drain budget) = Ok (task.Drain budget)
task_of record'.Peek = Ok task.Peek

-- what a script's bytes at a cursor ask; at the end, where nobody asks, it is as if a record were
-- cut short
abbrev pub Asks : ℕ → Read → Asked → Type 0
Asks size end a = (a.task ≡ Err CutShort) × (a.after ≡ size)
Asks size (stop q) a = (r : Refusal) × (a.task ≡ Err r) × (reason r ≡ q) × (a.after ≡ size)
Asks size (next asked after) a = (a.task ≡ task_of asked) × (a.after ≡ after)
