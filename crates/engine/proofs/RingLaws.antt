-- The questions of a network that a list of calls makes: each says of the arrays what it says of
-- the lists, since that network is well formed and its lists are those of the calls. So the owner
-- is found from every inserted node, and 31 is never said. Assumes nothing.
use mathlib.Core.Path.{◌≡◌, ap}
use mathlib.Core.List.{List}
use Prim.Native.Nat.{ℕ}
use lib.Dec.{T}
use Rattle.refusal.specs.Code.{plain}
use Rattle.refusal.specs.Rules.{done, no}
use Rattle.serial.specs.Serial.{in_range}
use Rattle.protocol.specs.declared.Call.{Call}
use Rattle.protocol.specs.declared.Reply.TheVariants.{Inserted}
use Rattle.protocol.specs.History.{history}
use Rattle.protocol.specs.Claim.{Inserted as IsInserted}
use Rattle.protocol.specs.Questions.{inserted_word, inserted_count, inserted_of as inserted_in_lists, owner_of as owner_in_lists}
use Rattle.protocol.specs.FurtherClaims.{FindsOwner}
use Rattle.protocol.proofs.Owners.{owner_found, always_found}
use Rattle.network.specs.Arrays.{empty}
use Rattle.network.proofs.ArrayLaws.{well-formed}
use Rattle.engine.specs.Outcomes.{run}
use Rattle.engine.proofs.RunLaws.{run-live, run_well_formed}
use Rattle.engine.specs.Answers.{inserted_of, owner_of}

-- ---- who is inserted
pub run-inserted : (calls : List Call) → inserted_of (run empty calls) ≡ done (Inserted (inserted_word (history calls).state) (inserted_count (history calls).state))
unfolding inserted_of inserted_in_lists
run-inserted calls = let h = run_well_formed calls in rw (h, (well-formed (run empty calls) h).lists) (ap (λ s. done (Inserted (inserted_word s) (inserted_count s))) (run-live calls))

-- ---- the owner of a serial
pub run_owner : (calls : List Call) (start serial : ℕ) → owner_of (run empty calls) start serial ≡ owner_in_lists (history calls).state start serial
unfolding owner_of
run_owner calls start serial = rw (run_well_formed calls, run-live calls)

pub run_owner_found : (calls : List Call) (start serial : ℕ) → IsInserted (history calls).state start → T (in_range serial)
    → FindsOwner (history calls).state start serial (owner_of (run empty calls) start serial)
run_owner_found calls start serial member ranged = rw (run_owner calls start serial) (owner_found calls start serial member ranged)

-- R10.14: no question is answered 31
pub never_31 : (calls : List Call) (start serial : ℕ) → ¬ (owner_of (run empty calls) start serial ≡ no (plain 31))
never_31 calls start serial = rw (run_owner calls start serial) (always_found calls start serial)
