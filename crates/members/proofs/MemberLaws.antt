-- What a well-formed network is asked is what its lists are asked: each number that is met is below
-- the count, so that the node read is the one of the lists; and the number of the word's ones is how
-- many are inserted. Assumes nothing.
use mathlib.Core.Path.{◌≡◌, ap}
use mathlib.Core.Bool.{true}
use Prim.Native.Nat.{ℕ, ◌<◌}
use native.Mathlib.Omega.{arith}
use lib.ListN.{length}
use Rattle.predicates.proofs.WordLaws.{words_agree, word_ones}
use Rattle.node.specs.declared.Node.{Node}
use Rattle.protocol.specs.State.{is_inserted, inserted}
use Rattle.protocol.specs.Questions.{inserted_word, inserted_of}
use Rattle.network.specs.declared.Network.{Network}
use Rattle.network.specs.Arrays.{live, well_formed}
use Rattle.network.proofs.Lengths.{Lengths}
use Rattle.network.proofs.ArrayLaws.{well-formed}
use Rattle.network.proofs.LiveLaws.{nodes-length, node_read}
use Rattle.members.specs.Members.{ack_waits, member_in, word_of, inserted_in}

module _ (n : Network) (l : Lengths n) (h : well_formed n ≡ true) where
  pub member-live : (u : ℕ) → u < n.count → member_in n u ≡ inserted (live n) u
  unfolding inserted
  member-live u k = ap (λ (node : Node). is_inserted node.status (ack_waits n u)) (node_read n l h u k)

  pub word_live : word_of n ≡ inserted_word (live n)
  word_live = words_agree (length (live n).nodes) (member_in n) (inserted (live n)) (λ u k. member-live u (omega (arith, nodes-length n l h)))

  pub inserted-told : inserted_in n ≡ inserted_of (live n)
  unfolding inserted_of
  inserted-told = rw ((well-formed n h).lists, word_live, word_ones (length (live n).nodes) (inserted (live n)))
