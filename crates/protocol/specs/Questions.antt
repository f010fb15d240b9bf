-- What a network is asked without being changed: how many messages wait, who is inserted, and which
-- node owns a serial. A question has its refusals in their order, as a call has. Definitions only.
use Rattle.std.specs.Prelude.{ℕ, zero, suc, not, cond, List, [], ◌∷◌, length, Some, None}
use Rattle.predicates.specs.Tests.{count_below, word_below}
use Rattle.refusal.specs.Code.{plain}
use Rattle.refusal.specs.Rules.{Coded, done, no, Rule, ◌when◌, ruled}
use Rattle.serial.specs.Serial.{in_range}
use Rattle.interval.specs.Interval.{within}
use Rattle.parts.specs.Tests.{Link}
use Rattle.protocol.specs.declared.Reply.{Reply}
use Rattle.protocol.specs.declared.Reply.TheVariants.{Owner, Ran, Inserted}
use Rattle.protocol.specs.State.{State, declared, key_at, right_at, well_formed, inserted}

-- ---- how many messages wait
-- R8.5: told as by a drain that makes no delivery, or 6
unfoldable pub peek_of : State → Coded Reply
peek_of s = ruled ((6 when not (well_formed s)) ∷ []) no (done (Ran 0 (length s.messages)))

-- ---- who is inserted
-- R4.2: bit n for node n
abbrev pub inserted_word : State → ℕ
inserted_word s = word_below (length s.nodes) (inserted s)

-- R4.2: how many are inserted, which is the number of the word's ones (`size-is-ones`,
-- `proofs/Members.antt`)
abbrev pub inserted_count : State → ℕ
inserted_count s = count_below (length s.nodes) (inserted s)

-- R6.11: the word and how many they are, or 6
unfoldable pub inserted_of : State → Coded Reply
inserted_of s = ruled ((6 when not (well_formed s)) ∷ []) no (done (Inserted (inserted_word s) (inserted_count s)))

-- ---- the owner of a serial
-- R7.1, R7.2, where a walk to an owner ends: at a node, with the hops made, or nowhere
pub data Walk : Type 0 where
  found : ℕ → ℕ → Walk
  lost : Walk

-- R7.1, at node u, after some hops: u is the owner if the serial is in [key, key of right link),
-- and else it is looked for from the right link on; R7.2: a missing right link ends the walk
abbrev pub owner_at : State → ℕ → ℕ → ℕ → Link → (ℕ → Walk) → Walk
owner_at s serial u hops None beyond = lost
owner_at s serial u hops (Some q) beyond = cond (within (key_at s u) (key_at s q) serial) (found u hops) (beyond q)

-- R7.1: from node to node, with so many hops left to make; R7.2: without success they end it
abbrev pub owner_from : State → ℕ → ℕ → ℕ → ℕ → Walk
owner_from s serial zero u hops = lost
owner_from s serial (suc left) u hops = owner_at s serial u hops (right_at s u) (λ q. owner_from s serial left q (suc hops))

-- R7.3: 5 of the start, 4 of the serial, 30 of a start that is not inserted
abbrev pub owner_rules : State → ℕ → ℕ → List Rule
owner_rules s start serial =
    (6 when not (well_formed s))
    ∷ (5 when not (declared s start))
    ∷ (4 when not (in_range serial))
    ∷ (30 when not (inserted s start))
    ∷ []

-- R7.1: the answer is the node and the hops; R7.2: 31 where the walk ends nowhere
abbrev pub walked : Walk → Coded Reply
walked (found u hops) = done (Owner u hops)
walked lost = no (plain 31)

-- R7.2: how many hops may be made, as many as there are nodes
abbrev pub hop_limit : State → ℕ
hop_limit s = length s.nodes

-- R7.1, R7.3: the walk from the start, where no rule refuses
unfoldable pub owner_of : State → ℕ → ℕ → Coded Reply
owner_of s start serial = ruled (owner_rules s start serial) no (walked (owner_from s serial (hop_limit s) start 0))
