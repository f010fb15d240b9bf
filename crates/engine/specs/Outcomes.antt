-- What a call or a drain on a network in arrays comes to: 6 where it is not well formed, and else
-- what the rules of the crate `protocol` make of the lists that the arrays hold, in arrays again.
-- The rules are not written a second time. Definitions only.
use Rattle.std.specs.Prelude.{ℕ, cond, List, [], ◌∷◌, length}
use Rattle.refusal.specs.Code.{Reason, plain}
use Rattle.refusal.specs.Rules.{Coded, no}
use Rattle.parts.specs.declared.Message.{Message}
use Rattle.protocol.specs.declared.Call.{Call}
use Rattle.protocol.specs.declared.Reply.{Reply}
use Rattle.protocol.specs.Calls.{Result, apply_of as apply_to_lists}
use Rattle.protocol.specs.Answer.{answered}
use Rattle.protocol.specs.Drain.{drain_of as drain_lists}
use Rattle.network.specs.declared.Network.{Network}
use Rattle.network.specs.Arrays.{live, well_formed, held}
use Rattle.engine.specs.declared.Called.{Called}
use Rattle.report.specs.declared.Report.{Report}

-- ---- what comes of a call or a drain
-- R11.2: the network left behind, the messages posted in their order, and an answer or the reason
-- of a refusal
pub record Applied : Type 0 where
  pub network : Network
  pub posts : List Message
  pub said : Coded Reply

-- R6.2: a refusal says its reason; the network is as it was, and nothing is posted
abbrev pub refused : Network → Reason → Applied
refused n r = record { network = n; posts = []; said = no r }

-- R1.7: what comes of the lists, in arrays
abbrev pub in_arrays : Result → Applied
in_arrays r = record { network = held r.state; posts = r.posts; said = r.said }

-- R6.3: 6 is the first refusal of every call; and else what the rules make of the lists
unfoldable pub apply_of : Network → Call → Applied
apply_of n call = cond (well_formed n) (in_arrays (apply_to_lists (live n) call)) (refused n (plain 6))

-- R8.3: and of a drain
unfoldable pub drain_of : Network → ℕ → Applied
drain_of n budget = cond (well_formed n) (in_arrays (drain_lists (live n) budget)) (refused n (plain 6))

-- ---- what the code hands back
-- R11.2: all of it but the posts themselves, of which it says how many they are
pub record Counted : Type 0 where
  pub network : Network
  pub posted : ℕ
  pub said : Coded Reply

-- R11.2: what the code must hand back
abbrev pub counted : Applied → Counted
counted a = record { network = a.network; posted = length a.posts; said = a.said }

-- R11.3: what a report says, beside the network that it is of
abbrev pub reported : Network → Report → Counted
reported n r = record { network = n; posted = r.posted; said = answered r.answer }

-- R11.3: what a call by value says
abbrev pub called : Called → Counted
called c = reported c.network c.report

-- R10.1: a refused call stays in the list, and the next one gets the network that it handed back
abbrev pub run : Network → List Call → Network
run n [] = n
run n (call ∷ calls) = run (apply_of n call).network calls
