-- What holds of the nodes and the waiting messages after every list of calls: the inserted nodes
-- form a ring in the order of their keys; a waiting request says what its sender's links and
-- numbers say; and each inserted node's left link is either right, or a notice that mends it waits.
-- It is said of the nodes as a function N of their numbers and of the list M of waiting messages.
-- Assumes nothing.
use Rattle.std.specs.Prelude.{Some}
use mathlib.Core.Path.{◌≡◌}
use mathlib.Core.Logic.{◌↔◌, ◌≢◌}
use mathlib.Core.Bool.{Bool, true, false}
use mathlib.Core.List.{List}
use Prim.Native.Nat.{ℕ}
use Rattle.predicates.specs.Tests.{any}
use Rattle.predicates.proofs.TestLaws.{◌∈◌}
use Rattle.interval.proofs.Laws.{Between}
use Rattle.sequence.specs.Sequence.{Number, next_seq}
use Rattle.sequence.proofs.Laws.{Newer}
use Rattle.links.proofs.Ring.{Ring}
use Rattle.parts.specs.declared.Status.TheVariants.{Ins, Del}
use Rattle.parts.specs.declared.Message.{Message}
use Rattle.node.specs.declared.Node.{Node}
use Rattle.node.specs.Actions.{set_r, set_r_ack, set_l}
use Rattle.protocol.specs.State.{is_ack_to, is_inserted}

abbrev pub is_member : (ℕ → Node) → List Message → ℕ → Bool
is_member N M u = is_inserted (N u).status (any (is_ack_to u) M)

abbrev pub Member : (ℕ → Node) → List Message → ℕ → Type 0
Member N M u = is_member N M u ≡ true

-- ---- requests
-- v asked p to be let in before e
pub record ByJoiner (N : ℕ → Node) (v p new e : ℕ) (n : Number) : Type 0 where
  pub itself : new ≡ v
  pub left : (N v).left ≡ Some p
  pub right : (N v).right ≡ Some e
  pub number : n ≡ (N v).lseq
  pub between : Between (N p).key (N e).key (N v).key

-- v asked to be passed over
pub record ByLeaver (N : ℕ → Node) (v new e : ℕ) (n : Number) : Type 0 where
  pub right : (N v).right ≡ Some new
  pub another : new ≢ v
  pub expected : e ≡ v
  pub number : (k : Number) → (N v).rseq ≡ Some k → n ≡ next_seq k

-- what a waiting SetR(new, e, n) from v to p shows, by the status of v
pub record Request (N : ℕ → Node) (v p new e : ℕ) (n : Number) : Type 0 where
  pub by_joiner : (N v).status ≡ Ins → ByJoiner N v p new e n
  pub by_leaver : (N v).status ≡ Del → ByLeaver N v new e n

-- who waits for what, and for whom no notice is on the way
pub record Exchanges (N : ℕ → Node) (M : List Message) (joins : ℕ → Bool) : Type 0 where
  pub joiners : (u : ℕ) → (N u).status ≡ Ins → joins u ≡ true
  pub leavers : (u : ℕ) → (N u).status ≡ Del → joins u ≡ false
  pub requests : (v p new e : ℕ) (n : Number) → set_r v p new e n ∈ M → Request N v p new e n
  pub quiet : (w u a : ℕ) (n : Number) → (N u).status ≡ Ins → is_member N M u ≡ false → ¬ (set_l w u a n ∈ M)

-- ---- left links
-- the number that v keeps for its right link: its right number, or, while it is ins, the one that
-- the answer to it carries
pub data Keeps (N : ℕ → Node) (M : List Message) (v : ℕ) (R : Number) : Type 0 where
  stored : (N v).status ≢ Ins → (N v).rseq ≡ Some R → Keeps N M v R
  coming : (N v).status ≡ Ins → (w : ℕ) → set_r_ack w v R ∈ M → Keeps N M v R

-- u's left link towards its predecessor v, which keeps the number R for u
pub record LeftLink (N : ℕ → Node) (M : List Message) (v u : ℕ) (R : Number) : Type 0 where
  pub reached : ¬ Newer (N u).lseq R
  pub noticed : (w a : ℕ) (n : Number) → set_l w u a n ∈ M → ¬ Newer n R
  pub named : (w a : ℕ) → set_l w u a R ∈ M → a ≡ v
  pub current : (N u).lseq ≡ R → (N u).left ≡ Some v
  pub awaited : (N u).lseq ≢ R → (w : ℕ) × (a : ℕ) × (set_l w u a R ∈ M)

-- ---- the ring, and its left links
pub record Round (N : ℕ → Node) (M : List Message) (told : ℕ → Bool) : Type 0 where
  pub order : List ℕ
  pub ring : Ring (λ u. (N u).key) (λ u. (N u).right) order
  pub members : (u : ℕ) → (u ∈ order) ↔ Member N M u
  pub as_told : (u : ℕ) → told u ≡ is_member N M u
  pub lefts : (v u : ℕ) (R : Number) → Member N M v → (N v).right ≡ Some u → Keeps N M v R → LeftLink N M v u R

pub record Invariant (N : ℕ → Node) (M : List Message) (told joins : ℕ → Bool) : Type 0 where
  pub exchanges : Exchanges N M joins
  pub order : Round N M told
