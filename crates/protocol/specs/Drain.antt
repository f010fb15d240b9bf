-- A drain of a network (paper 01: run down; docs/RULES.md, section 8): deliveries one after the
-- other, each at the lowest place where one is not refused, until nothing waits or a budget is
-- spent; a budget of 0 is no limit. Definitions only.
use Rattle.std.specs.Prelude.{ℕ, zero, suc, not, cond, List, [], ◌∷◌, ◌++◌, length, Option, None, Some}
use Rattle.refusal.specs.Rules.{done, ◌when◌, ruled}
use Rattle.parts.specs.declared.Message.{Message}
use Rattle.protocol.specs.declared.Call.TheVariants.{Deliver}
use Rattle.protocol.specs.declared.Reply.TheVariants.{Ran}
use Rattle.protocol.specs.State.{State, load, well_formed}
use Rattle.protocol.specs.Calls.{Result, refused, apply_of}
use Rattle.protocol.specs.Answer.{accepted}

-- R8.1: the lowest place where a delivery is not refused, of the k places from `place` on
abbrev pub lowest_from : State → ℕ → ℕ → Option ℕ
lowest_from s place zero = None
lowest_from s place (suc k) = cond (accepted (apply_of s (Deliver place)).said) (Some place) (lowest_from s (suc place) k)

-- R8.1: the lowest of all places
abbrev pub lowest : State → Option ℕ
lowest s = lowest_from s 0 (length s.messages)

-- R8.1: the network after one delivery
abbrev pub after_delivery : State → ℕ → State
after_delivery s place = (apply_of s (Deliver place)).state

-- R8.1: the place, and those of what is still to be done after a delivery there
abbrev pub places_from : (State → List ℕ) → State → Option ℕ → List ℕ
places_from rest s None = []
places_from rest s (Some place) = place ∷ rest (after_delivery s place)

-- R8.1: the places of at most so many deliveries, in turn, while a message waits
abbrev pub places_within : ℕ → State → List ℕ
places_within zero s = []
places_within (suc most) s = places_from (places_within most) s (lowest s)

-- R8.1: how many deliveries a budget allows. 0 is no limit: it allows the load, and no more can be
-- made of a well-formed network (R10.9), so that a drain of one ends for want of messages (R8.4,
-- `UnlimitedClaim`)
abbrev pub allowed : ℕ → State → ℕ
allowed zero s = load s.messages
allowed (suc budget) s = suc budget

-- R8.1: the places of the deliveries of a drain with this budget
abbrev pub places : ℕ → State → List ℕ
places budget s = places_within (allowed budget s) s

-- R8.1: the network after deliveries at these places
abbrev pub deliver_all : State → List ℕ → State
deliver_all s [] = s
deliver_all s (place ∷ rest) = deliver_all (after_delivery s place) rest

-- R8.1, R9.8: what these deliveries post, in turn
abbrev pub posts_of_all : State → List ℕ → List Message
posts_of_all s [] = []
posts_of_all s (place ∷ rest) = (apply_of s (Deliver place)).posts ++ posts_of_all (after_delivery s place) rest

-- R8.2: how many deliveries were made, and how many messages wait then
abbrev pub drained : State → List ℕ → Result
drained s places = record {
  state = deliver_all s places;
  posts = posts_of_all s places;
  said = done (Ran (length places) (length (deliver_all s places).messages));
}

-- R8.3: it is refused 6, and by nothing else
unfoldable pub drain_of : State → ℕ → Result
drain_of s budget = ruled ((6 when not (well_formed s)) ∷ []) (refused s) (drained s (places budget s))
