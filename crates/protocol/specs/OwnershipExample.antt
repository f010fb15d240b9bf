-- R7.5, R7.6: a list of calls in which nodes are let in and released, and who owns six serials
-- after each of them, asked from each of the three nodes. `proofs/OwnershipExample.antt` shows by
-- computation that the definitions say so. Definitions only.
use Rattle.std.specs.Prelude.{ℕ, List, [], ◌∷◌, map, Option, None, Some}
use Rattle.refusal.specs.Rules.{Coded, done, no}
use Rattle.protocol.specs.declared.Call.{Call}
use Rattle.protocol.specs.declared.Order.TheVariants.{Declare, Create, Join, Leave}
use Rattle.protocol.specs.declared.Call.TheVariants.{Order, Deliver}
use Rattle.protocol.specs.declared.Reply.{Reply}
use Rattle.protocol.specs.declared.Reply.TheVariants.{Declared, Stepped, Owner, Ran, Inserted}
use Rattle.protocol.specs.State.{State}
use Rattle.protocol.specs.Calls.{apply_of}
use Rattle.protocol.specs.Questions.{owner_of}

-- ---- who is named
-- the owner that an answer names
abbrev pub owner_in : Coded Reply → Option ℕ
owner_in (done (Owner u hops)) = Some u
owner_in (done (Declared number key)) = None
owner_in (done (Stepped o)) = None
owner_in (done (Ran made left)) = None
owner_in (done (Inserted word size)) = None
owner_in (no r) = None

-- the owners of 999, 1,000, 1,999, 2,000, 2,999 and 3,000, as the question from a start names them
abbrev pub owners_from : State → ℕ → List (Option ℕ)
owners_from s start = map (λ serial. owner_in (owner_of s start serial)) (999 ∷ 1_000 ∷ 1_999 ∷ 2_000 ∷ 2_999 ∷ 3_000 ∷ [])

-- ---- call by call
-- a call, and what is named after it from 0, from 1 and from 2
pub record Row : Type 0 where
  pub call : Call
  pub from_0 : List (Option ℕ)
  pub from_1 : List (Option ℕ)
  pub from_2 : List (Option ℕ)

abbrev pub row : Call → List (Option ℕ) → List (Option ℕ) → List (Option ℕ) → Row
row call from_0 from_1 from_2 = record { call = call; from_0 = from_0; from_1 = from_1; from_2 = from_2 }

-- the rows of calls, one after the other
abbrev pub rows_of : State → List Call → List Row
rows_of s [] = []
rows_of s (call ∷ calls) =
    row call (owners_from (apply_of s call).state 0) (owners_from (apply_of s call).state 1) (owners_from (apply_of s call).state 2)
    ∷ rows_of (apply_of s call).state calls

-- ---- what must be named
-- nobody, since the start is not inserted
abbrev pub nobody : List (Option ℕ)
nobody = None ∷ None ∷ None ∷ None ∷ None ∷ None ∷ []

-- the six owners in turn
abbrev pub owners : ℕ → ℕ → ℕ → ℕ → ℕ → ℕ → List (Option ℕ)
owners a b c d e f = Some a ∷ Some b ∷ Some c ∷ Some d ∷ Some e ∷ Some f ∷ []

-- 0 with the key 1,000 founds the ring; 2 with 3,000 is let in, and 1 with 2,000 between them; then
-- 2 is released, and 0, both by 1; and 1 leaves alone. What is owned changes at these six calls
abbrev pub table : List Row
table =
    row (Order (Declare 1_000)) nobody nobody nobody
    ∷ row (Order (Declare 2_000)) nobody nobody nobody
    ∷ row (Order (Declare 3_000)) nobody nobody nobody
    ∷ row (Order (Create 0)) (owners 0 0 0 0 0 0) nobody nobody
    ∷ row (Order (Join 2 0 0)) (owners 0 0 0 0 0 0) nobody nobody
    ∷ row (Deliver 0) (owners 2 0 0 0 0 2) nobody (owners 2 0 0 0 0 2)
    ∷ row (Deliver 0) (owners 2 0 0 0 0 2) nobody (owners 2 0 0 0 0 2)
    ∷ row (Deliver 0) (owners 2 0 0 0 0 2) nobody (owners 2 0 0 0 0 2)
    ∷ row (Order (Join 1 0 2)) (owners 2 0 0 0 0 2) nobody (owners 2 0 0 0 0 2)
    ∷ row (Deliver 0) (owners 2 0 0 1 1 2) (owners 2 0 0 1 1 2) (owners 2 0 0 1 1 2)
    ∷ row (Deliver 0) (owners 2 0 0 1 1 2) (owners 2 0 0 1 1 2) (owners 2 0 0 1 1 2)
    ∷ row (Deliver 0) (owners 2 0 0 1 1 2) (owners 2 0 0 1 1 2) (owners 2 0 0 1 1 2)
    ∷ row (Order (Join 1 0 2)) (owners 2 0 0 1 1 2) (owners 2 0 0 1 1 2) (owners 2 0 0 1 1 2)
    ∷ row (Order (Leave 2)) (owners 2 0 0 1 1 2) (owners 2 0 0 1 1 2) (owners 2 0 0 1 1 2)
    ∷ row (Deliver 0) (owners 1 0 0 1 1 1) (owners 1 0 0 1 1 1) nobody
    ∷ row (Deliver 0) (owners 1 0 0 1 1 1) (owners 1 0 0 1 1 1) nobody
    ∷ row (Deliver 0) (owners 1 0 0 1 1 1) (owners 1 0 0 1 1 1) nobody
    ∷ row (Order (Leave 0)) (owners 1 0 0 1 1 1) (owners 1 0 0 1 1 1) nobody
    ∷ row (Deliver 0) nobody (owners 1 1 1 1 1 1) nobody
    ∷ row (Deliver 0) nobody (owners 1 1 1 1 1 1) nobody
    ∷ row (Deliver 0) nobody (owners 1 1 1 1 1 1) nobody
    ∷ row (Order (Leave 1)) nobody nobody nobody
    ∷ []

-- its calls
abbrev pub handing_over : List Call
handing_over = map (λ r. r.call) table
