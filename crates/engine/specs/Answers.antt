-- What a question about a network in arrays comes to: 6 where it is not well formed, and else what
-- the rules of the crate `protocol` say of the lists that the arrays hold. Definitions only.
use Rattle.std.specs.Prelude.{ℕ, cond}
use Rattle.refusal.specs.Code.{plain}
use Rattle.refusal.specs.Rules.{Coded, no}
use Rattle.protocol.specs.declared.Reply.{Reply}
use Rattle.protocol.specs.Questions.{peek_of as peek_in_lists, inserted_of as inserted_in_lists, owner_of as owner_in_lists}
use Rattle.network.specs.declared.Network.{Network}
use Rattle.network.specs.Arrays.{live, well_formed}

-- R8.5: how many messages wait; refusal 6 of a network that is not well formed
unfoldable pub peek_of : Network → Coded Reply
peek_of n = cond (well_formed n) (peek_in_lists (live n)) (no (plain 6))

-- R6.11: who is inserted
unfoldable pub inserted_of : Network → Coded Reply
inserted_of n = cond (well_formed n) (inserted_in_lists (live n)) (no (plain 6))

-- R7.3: the owner of a serial
unfoldable pub owner_of : Network → ℕ → ℕ → Coded Reply
owner_of n start serial = cond (well_formed n) (owner_in_lists (live n) start serial) (no (plain 6))
