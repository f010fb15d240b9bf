-- No rules stand here: it is what the code computes on a network's arrays, for every network, where
-- it is asked who is inserted. What this comes to on the lists of a well-formed network is proved
-- in `proofs/`. Definitions only.
use Rattle.std.specs.Prelude.{ℕ, Bool, length}
use Rattle.std.specs.Int.Count.{ones}
use Rattle.predicates.specs.Tests.{word_below}
use Rattle.refusal.specs.Rules.{Coded, done}
use Rattle.protocol.specs.declared.Reply.{Reply}
use Rattle.protocol.specs.declared.Reply.TheVariants.{Inserted}
use Rattle.protocol.specs.State.{ack_waits as ack_waits_in_lists, is_inserted}
use Rattle.network.specs.declared.Network.{Network}
use Rattle.network.specs.Arrays.{live}
use Rattle.network.specs.Reads.{node_in}

abbrev pub ack_waits : Network → ℕ → Bool
ack_waits n u = ack_waits_in_lists (live n) u

abbrev pub member_in : Network → ℕ → Bool
member_in n u = is_inserted (node_in n u).status (ack_waits n u)

abbrev pub word_of : Network → ℕ
word_of n = word_below (length (live n).nodes) (member_in n)

abbrev pub inserted_in : Network → Coded Reply
inserted_in n = done (Inserted (word_of n) (ones (word_of n)))
