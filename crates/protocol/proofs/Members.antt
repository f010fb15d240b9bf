-- The word that says who is inserted: bit u of it says whether node u is, past the last node there
-- are only zeros, and its ones are as many as the size says. Each is a law of words, read at the
-- inserted nodes; in a well-formed network the nodes are so few that 32 bits hold the word. Assumes
-- nothing.
use mathlib.Core.Path.{◌≡◌}
use Prim.Native.Nat.{ℕ, ◌/◌, ◌%◌, ◌^◌, ◌≤◌, ◌<◌}
use native.Mathlib.Nat.{lt_of_lt_of_le}
use lib.ListN.{length}
use lib.Dec.{T}
use lib.Pow.{pow_mono}
use lib.Count.{ones}
use Rattle.predicates.specs.Tests.{bit}
use Rattle.predicates.proofs.TestLaws.{is_true}
use Rattle.predicates.proofs.WordLaws.{word_fits, word_ones, word-bit, word-past}
use Rattle.protocol.specs.State.{State, well_formed, inserted}
use Rattle.protocol.specs.Questions.{inserted_word, inserted_count}
use Rattle.protocol.proofs.Facts.{well-formed}

-- ---- each bit
pub member-bit : (s : State) (u : ℕ) → u < length s.nodes → inserted_word s / 2 ^ u % 2 ≡ bit (inserted s u)
member-bit s u k = word-bit (length s.nodes) (inserted s) u k

pub no-bit-past : (s : State) (u : ℕ) → length s.nodes ≤ u → inserted_word s / 2 ^ u % 2 ≡ 0
no-bit-past s u k = word-past (length s.nodes) (inserted s) u k

-- ---- R4.2: counting the ones of the word tells how many are inserted
pub size-is-ones : (s : State) → ones (inserted_word s) ≡ inserted_count s
size-is-ones s = word_ones (length s.nodes) (inserted s)

-- ---- R4.2: one word of 32 bits
pub word_fits_32 : (s : State) → T (well_formed s) → inserted_word s < 2 ^ 32
word_fits_32 s w = lt_of_lt_of_le (word_fits (length s.nodes) (inserted s)) (pow_mono (well-formed s (is_true _ w)).few_nodes)
