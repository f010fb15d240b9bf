-- R9.10: 01's example script as a list of calls, and the answers that it must have; a longer list,
-- in which leaves are granted and a notice comes late; and one in which a node asks to join beside
-- one that has gone out. `proofs/Example.antt` shows by computation that the definitions give these
-- answers. Definitions only.
use Rattle.std.specs.Prelude.{List, [], ◌∷◌}
use Rattle.refusal.specs.Code.{plain}
use Rattle.refusal.specs.Rules.{Coded, done, no}
use Rattle.node.specs.declared.Outcome.TheVariants.{Created, Waiting, Granted, Denied, Joined, Gone, JoinDenied, LeaveDenied, LeftSet, Dropped}
use Rattle.protocol.specs.declared.Call.{Call}
use Rattle.protocol.specs.declared.Order.TheVariants.{Declare, Create, Join, Leave}
use Rattle.protocol.specs.declared.Call.TheVariants.{Order, Deliver}
use Rattle.protocol.specs.declared.Reply.{Reply}
use Rattle.protocol.specs.declared.Reply.TheVariants.{Declared, Stepped}
use Rattle.protocol.specs.State.{State}
use Rattle.protocol.specs.Calls.{apply_of}

-- the answers to calls, one after the other
abbrev pub answers : State → List Call → List (Coded Reply)
answers s [] = []
answers s (call ∷ calls) = (apply_of s call).said ∷ answers (apply_of s call).state calls

-- all records but the question for an owner, which is no call of a list
abbrev pub script : List Call
script =
    Order (Declare 1_000)
    ∷ Order (Declare 2_000)
    ∷ Order (Create 0)
    ∷ Order (Join 1 0 0)
    ∷ Deliver 0
    ∷ Deliver 1
    ∷ Order (Leave 0)
    ∷ Deliver 1
    ∷ Deliver 0
    ∷ Deliver 0
    ∷ Deliver 0
    ∷ []

-- the answers, all but that to the question
abbrev pub printed : List (Coded Reply)
printed =
    done (Declared 0 1_000)
    ∷ done (Declared 1 2_000)
    ∷ done (Stepped Created)
    ∷ done (Stepped Waiting)
    ∷ done (Stepped Granted)
    ∷ done (Stepped Joined)
    ∷ done (Stepped Waiting)
    ∷ done (Stepped Denied)
    ∷ done (Stepped LeftSet)
    ∷ done (Stepped LeaveDenied)
    ∷ no (plain 29)
    ∷ []

-- R5.2, R5.13, refusal 25: three nodes; 2 joins between 0 and 1, whose notice of it stays under way
-- while 2 and then 1 leave again; 1 may not join while that notice waits, and then joins with the
-- left number that it has
abbrev pub late_notice : List Call
late_notice =
    Order (Declare 1_000)
    ∷ Order (Declare 2_000)
    ∷ Order (Declare 1_500)
    ∷ Order (Create 0)
    ∷ Order (Join 1 0 0)
    ∷ Deliver 0
    ∷ Deliver 1
    ∷ Order (Join 2 0 1)
    ∷ Deliver 1
    ∷ Deliver 2
    ∷ Order (Leave 2)
    ∷ Deliver 2
    ∷ Deliver 2
    ∷ Deliver 2
    ∷ Order (Leave 1)
    ∷ Deliver 2
    ∷ Deliver 3
    ∷ Order (Join 1 0 0)
    ∷ Deliver 1
    ∷ Order (Join 1 0 0)
    ∷ []

abbrev pub late_notice_said : List (Coded Reply)
late_notice_said =
    done (Declared 0 1_000)
    ∷ done (Declared 1 2_000)
    ∷ done (Declared 2 1_500)
    ∷ done (Stepped Created)
    ∷ done (Stepped Waiting)
    ∷ done (Stepped Granted)
    ∷ done (Stepped Joined)
    ∷ done (Stepped Waiting)
    ∷ done (Stepped Granted)
    ∷ done (Stepped Joined)
    ∷ done (Stepped Waiting)
    ∷ done (Stepped Granted)
    ∷ done (Stepped LeftSet)
    ∷ done (Stepped Gone)
    ∷ done (Stepped Waiting)
    ∷ done (Stepped Granted)
    ∷ done (Stepped Gone)
    ∷ no (plain 25)
    ∷ done (Stepped Dropped)
    ∷ done (Stepped Waiting)
    ∷ []

-- R5.9, R5.13, 02 (ii): three nodes; 2 asks to join beside 1, which has just gone out, is denied at
-- once, and joins beside 0
abbrev pub gone_neighbour : List Call
gone_neighbour =
    Order (Declare 1_000)
    ∷ Order (Declare 2_000)
    ∷ Order (Declare 3_000)
    ∷ Order (Create 0)
    ∷ Order (Join 1 0 0)
    ∷ Deliver 0
    ∷ Deliver 0
    ∷ Deliver 0
    ∷ Order (Leave 1)
    ∷ Deliver 0
    ∷ Deliver 1
    ∷ Order (Join 2 1 0)
    ∷ Deliver 1
    ∷ Deliver 1
    ∷ Order (Join 2 0 0)
    ∷ Deliver 1
    ∷ []

abbrev pub gone_neighbour_said : List (Coded Reply)
gone_neighbour_said =
    done (Declared 0 1_000)
    ∷ done (Declared 1 2_000)
    ∷ done (Declared 2 3_000)
    ∷ done (Stepped Created)
    ∷ done (Stepped Waiting)
    ∷ done (Stepped Granted)
    ∷ done (Stepped LeftSet)
    ∷ done (Stepped Joined)
    ∷ done (Stepped Waiting)
    ∷ done (Stepped Granted)
    ∷ done (Stepped Gone)
    ∷ done (Stepped Waiting)
    ∷ done (Stepped Denied)
    ∷ done (Stepped JoinDenied)
    ∷ done (Stepped Waiting)
    ∷ done (Stepped Granted)
    ∷ []
