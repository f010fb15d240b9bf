-- What a call on a well-formed network can do, one case for each row of the rules, with the facts
-- that its tests have shown. The cases are read off the definitions once, in `Cases`; whatever is
-- proved of every call is then proved case by case from these facts. Assumes nothing.
use Rattle.std.specs.Prelude.{Some}
use mathlib.Core.Path.{◌≡◌}
use mathlib.Core.Logic.{◌≢◌}
use mathlib.Core.Bool.{true, false}
use mathlib.Core.List.{List, [], ◌∷◌, ◌++◌}
use Prim.Native.Nat.{ℕ, ◌<◌}
use lib.ListN.{length, set}
use Rattle.refusal.specs.Code.{Reason}
use Rattle.refusal.specs.Rules.{done}
use Rattle.serial.specs.Serial.{in_range}
use Rattle.interval.proofs.Laws.{Between}
use Rattle.sequence.specs.Sequence.{Number, next_seq, capped_next, has_next, newer}
use Rattle.parts.specs.declared.Status.TheVariants.{Out, Ins, In, Del}
use Rattle.parts.specs.declared.Message.{Message}
use Rattle.node.specs.declared.Node.{Node}
use Rattle.node.specs.declared.Outcome.{Outcome}
use Rattle.node.specs.declared.Outcome.TheVariants.{Created, Waiting, LeftAlone, Granted, Denied, Joined, Gone, JoinDenied, LeaveDenied, LeftSet, LeftOld, Dropped}
use Rattle.node.specs.Shape.{capacity}
use Rattle.node.specs.Actions.{set_r, set_r_ack, set_r_nak, set_l, with_status, created, joining, relinked, confirmed, left_set}
use Rattle.protocol.specs.declared.Call.{Call}
use Rattle.protocol.specs.declared.Order.TheVariants.{Declare, Create, Join, Leave}
use Rattle.protocol.specs.declared.Call.TheVariants.{Order, Deliver}
use Rattle.protocol.specs.declared.Reply.TheVariants.{Stepped}
use Rattle.protocol.specs.State.{State, queue_limit, node_at, status_at, key_at, left_at, right_at, notice_waits}
use Rattle.protocol.specs.Calls.{Result, refused, declaring, peer_at, message_at}
use Rattle.protocol.proofs.Waiting.{Taken}

-- node i stands as x, these messages wait, nothing was posted, and this is the outcome
abbrev pub moved : State → ℕ → Node → List Message → Outcome → Result
moved s i x ms o = record { state = record { nodes = set s.nodes i x; messages = ms }; posts = []; said = done (Stepped o) }

-- the same, with messages posted behind those that wait
abbrev pub sent : State → ℕ → Node → List Message → List Message → Outcome → Result
sent s i x ms posts o = record { state = record { nodes = set s.nodes i x; messages = ms ++ posts }; posts = posts; said = done (Stepped o) }

-- ---- what the tests of each call have shown where it is not refused
pub record Declares (s : State) (key : ℕ) : Type 0 where
  pub in_range : in_range key ≡ true
  pub room : length s.nodes < capacity
  pub is_new : (v : ℕ) → v < length s.nodes → key_at s v ≢ key

pub record Creates (s : State) (u : ℕ) : Type 0 where
  pub declared : u < length s.nodes
  pub all_out : (v : ℕ) → v < length s.nodes → status_at s v ≡ Out
  pub no_notice : notice_waits s u ≡ false

pub record Joins (s : State) (u p q : ℕ) : Type 0 where
  pub declared : u < length s.nodes
  pub left_declared : p < length s.nodes
  pub right_declared : q < length s.nodes
  pub is_out : status_at s u ≡ Out
  pub between : Between (key_at s p) (key_at s q) (key_at s u)
  pub no_notice : notice_waits s u ≡ false
  pub room : length s.messages < queue_limit

pub record LeavesAlone (s : State) (u : ℕ) : Type 0 where
  pub declared : u < length s.nodes
  pub is_in : status_at s u ≡ In
  pub alone : right_at s u ≡ Some u

pub record Leaves (s : State) (u p q : ℕ) (n : Number) : Type 0 where
  pub declared : u < length s.nodes
  pub is_in : status_at s u ≡ In
  pub left : left_at s u ≡ Some p
  pub right : right_at s u ≡ Some q
  pub not_alone : q ≢ u
  pub number : (node_at s u).rseq ≡ Some n
  pub unspent : has_next n ≡ true
  pub room : length s.messages < queue_limit

pub record Delivers (s : State) (place : ℕ) (m : Message) (rest : List Message) : Type 0 where
  pub at : message_at s place ≡ m
  pub taken : Taken s.messages m rest
  pub declared : m.to < length s.nodes

-- node p grants: it links to e with number k
pub record Grants (s : State) (p e : ℕ) (k : Number) : Type 0 where
  pub is_in : status_at s p ≡ In
  pub right : right_at s p ≡ Some e
  pub number : (node_at s p).rseq ≡ Some k
  pub room : length s.messages < queue_limit

-- ---- what node m .to does with the message m, the rest still waiting
pub data Act (s : State) (m : Message) (rest : List Message) (r : Result) : Type 0 where
  drops : (p u a : ℕ) (n : Number) → m ≡ set_l p u a n → status_at s u ≡ Out → r ≡ moved s u (node_at s u) rest Dropped → Act s m rest r
  lets_in : (v p e : ℕ) (n k : Number) → m ≡ set_r v p v e n → Grants s p e k → has_next k ≡ true
      → r ≡ sent s p (relinked (node_at s p) v n) rest (set_l p e v (next_seq k) ∷ set_r_ack p v (next_seq k) ∷ []) Granted → Act s m rest r
  lets_go : (v p new e : ℕ) (n k : Number) → m ≡ set_r v p new e n → new ≢ v → Grants s p e k
      → r ≡ sent s p (relinked (node_at s p) new n) rest (set_l p new p n ∷ set_r_ack p v (capped_next k) ∷ []) Granted → Act s m rest r
  denies : (v p new e : ℕ) (n : Number) → m ≡ set_r v p new e n → r ≡ sent s p (node_at s p) rest (set_r_nak p v ∷ []) Denied → Act s m rest r
  joins : (p u : ℕ) (n : Number) → m ≡ set_r_ack p u n → status_at s u ≡ Ins → r ≡ moved s u (confirmed (node_at s u) n) rest Joined → Act s m rest r
  goes : (p u : ℕ) (n : Number) → m ≡ set_r_ack p u n → status_at s u ≡ Del → r ≡ moved s u (with_status Out (node_at s u)) rest Gone → Act s m rest r
  stays_out : (p u : ℕ) → m ≡ set_r_nak p u → status_at s u ≡ Ins → r ≡ moved s u (with_status Out (node_at s u)) rest JoinDenied → Act s m rest r
  stays_in : (p u : ℕ) → m ≡ set_r_nak p u → status_at s u ≡ Del → r ≡ moved s u (with_status In (node_at s u)) rest LeaveDenied → Act s m rest r
  takes : (p u a : ℕ) (n : Number) → m ≡ set_l p u a n → status_at s u ≢ Out → newer n (node_at s u).lseq ≡ true → r ≡ moved s u (left_set (node_at s u) a n) rest LeftSet → Act s m rest r
  ignores : (p u a : ℕ) (n : Number) → m ≡ set_l p u a n → status_at s u ≢ Out → newer n (node_at s u).lseq ≡ false → r ≡ moved s u (node_at s u) rest LeftOld → Act s m rest r

-- ---- what a call does that is not refused
pub data Accepted (s : State) (call : Call) (r : Result) : Type 0 where
  declares : (key : ℕ) → call ≡ Order (Declare key) → Declares s key → r ≡ declaring s key → Accepted s call r
  creates : (u : ℕ) → call ≡ Order (Create u) → Creates s u → r ≡ moved s u (created u (node_at s u)) s.messages Created → Accepted s call r
  asks : (u p q : ℕ) → call ≡ Order (Join u p q) → Joins s u p q
      → r ≡ sent s u (joining (node_at s u) (peer_at s p) (peer_at s q)) s.messages (set_r u p u q (node_at s u).lseq ∷ []) Waiting → Accepted s call r
  goes_alone : (u : ℕ) → call ≡ Order (Leave u) → LeavesAlone s u → r ≡ moved s u (with_status Out (node_at s u)) s.messages LeftAlone → Accepted s call r
  leaves : (u p q : ℕ) (n : Number) → call ≡ Order (Leave u) → Leaves s u p q n
      → r ≡ sent s u (with_status Del (node_at s u)) s.messages (set_r u p q u (next_seq n) ∷ []) Waiting → Accepted s call r
  delivers : (place : ℕ) (m : Message) (rest : List Message) → call ≡ Deliver place → Delivers s place m rest → Act s m rest r → Accepted s call r

-- ---- what a call does
pub data Change (s : State) (call : Call) (r : Result) : Type 0 where
  refuses : (n : Reason) → r ≡ refused s n → Change s call r
  accepts : Accepted s call r → Change s call r
