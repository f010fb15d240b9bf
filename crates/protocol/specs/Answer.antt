-- R11.3, what an answer of the code says: its reply, or the reason of its refusal. Every contract
-- of a function that gives an `Answer` reads it by `answered`. Definitions only.
use Rattle.std.specs.Prelude.{Bool, true, false, Result, Ok, Err}
use Rattle.refusal.specs.declared.Refusal.{Refusal}
use Rattle.refusal.specs.Code.{reason}
use Rattle.refusal.specs.Rules.{Coded, done, no}
use Rattle.node.specs.declared.Outcome.{Outcome}
use Rattle.node.specs.declared.Outcome.TheVariants.{LeftAlone, Granted, Denied}
use Rattle.protocol.specs.declared.Reply.{Reply}
use Rattle.protocol.specs.declared.Reply.TheVariants.{Declared, Stepped, Owner, Ran, Inserted}

-- R11.3: a reply, or the reason of a refusal
abbrev pub answered : Result Reply Refusal → Coded Reply
answered (Ok r) = done r
answered (Err r) = no (reason r)

-- ---- R10.2, R10.16: tests of what is said
abbrev pub accepted : Coded Reply → Bool
accepted (done r) = true
accepted (no r) = false

-- R10.2, R10.16: a SetR was granted
abbrev pub is_granted : Outcome → Bool
is_granted Granted = true
is_granted o = false

-- R10.16: a SetR was denied
abbrev pub is_denied : Outcome → Bool
is_denied Denied = true
is_denied o = false

-- R10.2: a node left alone
abbrev pub is_left_alone : Outcome → Bool
is_left_alone LeftAlone = true
is_left_alone o = false

abbrev pub says : (Outcome → Bool) → Coded Reply → Bool
says test (done (Declared number key)) = false
says test (done (Stepped o)) = test o
says test (done (Owner u hops)) = false
says test (done (Ran made left)) = false
says test (done (Inserted word size)) = false
says test (no r) = false
