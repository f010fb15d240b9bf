-- R10.15, R10.16, what holds of the arrays after any list of calls from the empty network: where
-- nothing waits no node waits for an answer, and the messages posted add up. It is stated in full,
-- and cites no proof. Definitions only.
use Rattle.std.specs.Prelude.{ℕ, ◌+◌, ◌≡◌, List, [], ◌∷◌, length}
use Rattle.predicates.specs.Tests.{bit}
use Rattle.protocol.specs.declared.Call.{Call}
use Rattle.protocol.specs.State.{status_at}
use Rattle.protocol.specs.Answer.{is_granted, is_denied, says}
use Rattle.protocol.specs.Claim.{posted_for, Settled}
use Rattle.network.specs.declared.Network.{Network}
use Rattle.network.specs.Arrays.{live, empty}
use Rattle.engine.specs.Outcomes.{Applied, apply_of, run}

-- what each of some calls comes to, by a measure of it, one after the other and added up
abbrev pub sum_of : (Applied → ℕ) → Network → List Call → ℕ
sum_of f n [] = 0
sum_of f n (call ∷ calls) = f (apply_of n call) + sum_of f (apply_of n call).network calls

-- R10.16: how many messages a call posts, and one for an answer `granted` or `denied`
abbrev pub posts_in : Applied → ℕ
posts_in a = length a.posts

abbrev pub grants_in : Applied → ℕ
grants_in a = bit (says is_granted a.said)

abbrev pub denials_in : Applied → ℕ
denials_in a = bit (says is_denied a.said)

pub record AfterCalls (calls : List Call) : Type 0 where
  -- R10.15
  pub settled : (run empty calls).waiting ≡ 0 → (u : ℕ) → Settled (status_at (live (run empty calls)) u)
  -- R10.16
  pub accounts : sum_of posts_in empty calls ≡ posted_for (sum_of grants_in empty calls) (sum_of denials_in empty calls) (live (run empty calls)).messages

-- R10.15, R10.16: after any list of calls on the arrays, refused ones included
abbrev pub ArraysClaim : Type 0
ArraysClaim = (calls : List Call) → AfterCalls calls
