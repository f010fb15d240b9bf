-- A record leaves the network well formed, on the arrays as on the lists, and posts no more than a
-- few messages; a refused one leaves it as it was; and the line of PK has twenty bytes at most.
-- Assumes nothing.
use mathlib.Core.Path.{◌≡◌}
use mathlib.Core.Bool.{not}
use mathlib.Core.List.{List, [], ◌∷◌}
use Rattle.std.specs.Prelude.{Option, None, Some}
use Prim.Native.Nat.{ℕ, ◌≤◌, ◌<◌}
use native.Mathlib.Omega.{arith}
use lib.ListN.{length, length-append}
use lib.Dec.{T}
use Rattle.predicates.proofs.TestLaws.{is_true}
use Rattle.refusal.specs.Code.{Reason}
use Rattle.refusal.specs.Rules.{no, ◌when◌, first, unless_refused}
use Rattle.serial.specs.Serial.{coded}
use Rattle.protocol.specs.declared.Order.TheVariants.{Declare as DeclareOrder}
use Rattle.protocol.specs.declared.Call.TheVariants.{Order, Deliver}
use Rattle.protocol.specs.State.{State, well_formed}
use Rattle.protocol.specs.Calls.{refused, apply_of}
use Rattle.protocol.specs.Questions.{peek_of}
use Rattle.protocol.specs.Drain.{places, deliver_all, drain_of}
use Rattle.protocol.proofs.Facts.{well-formed}
use Rattle.protocol.proofs.Lively.{steady}
use Rattle.protocol.proofs.Drains.{load-of-all, drain_is, drains}
use Rattle.protocol.proofs.Posted.{few-posts, few_posts_of_all, refused-same as call-refused-same, drain_refused_same}
use Rattle.text.proofs.DecimalLaws.{few-digits}
use Rattle.script.specs.declared.Record.{Record}
use Rattle.script.specs.declared.Record.TheVariants.{Call, Declare, Owner, Drain, Peek}
use Rattle.printout.specs.Lines.{line_of}
use Rattle.course.specs.Execution.{field_rules, value_of, executing, execute_of}

-- ---- a record leaves the network well formed
deliveries_kept : (s : State) → T (well_formed s) → (places : List ℕ) → T (well_formed (deliver_all s places))
deliveries_kept s w [] = w
deliveries_kept s w (place ∷ places) = deliveries_kept (apply_of s (Deliver place)).state ((steady s w).kept (Deliver place)) places

module _ (s : State) (w : T (well_formed s)) where
  executing-kept : (asked : Record) → T (well_formed (executing s asked).state)
  executing-kept (Call call) = (steady s w).kept call
  executing-kept (Declare serial) = (steady s w).kept (Order (DeclareOrder (value_of (coded serial))))
  executing-kept (Owner start serial) = w
  executing-kept (Drain budget) = rw (drain_is s budget w) (deliveries_kept s w (places budget s))
  executing-kept Peek = w

  pub record-kept : (asked : Record) → T (well_formed (execute_of s asked).state)
  unfolding execute_of
  record-kept asked = rw (is_true (well_formed s) w) (go (first (field_rules s asked)))
    where
      go : (o : Option Reason) → T (well_formed (unless_refused o (refused s) (executing s asked)).state)
      go None = executing-kept asked
      go (Some r) = w

-- ---- how many messages a record posts
module _ (s : State) (w : T (well_formed s)) where
  -- each delivery of a drain lowers the load, which is no more than three for each of 64 messages
  drain-posts : (budget : ℕ) → length (drain_of s budget).posts ≤ 384
  drain-posts budget =
      rw (drain_is s budget w)
      (omega (
        arith,
        few_posts_of_all s (places budget s),
        (drains s w budget).none_refused,
        (steady s w).lively.bound (places budget s),
        (load-of-all s.messages).1,
        (well-formed s (is_true _ w)).few_messages,
      ))

  executing-posts : (asked : Record) → length (executing s asked).posts ≤ 384
  executing-posts (Call call) = omega (arith, few-posts s call)
  executing-posts (Declare serial) = omega (arith, few-posts s (Order (DeclareOrder (value_of (coded serial)))))
  executing-posts (Owner start serial) = omega arith
  executing-posts (Drain budget) = drain-posts budget
  executing-posts Peek = omega arith

  pub record-posts : (asked : Record) → length (execute_of s asked).posts ≤ 384
  unfolding execute_of
  record-posts asked = rw (is_true (well_formed s) w) (go (first (field_rules s asked)))
    where
      go : (o : Option Reason) → length (unless_refused o (refused s) (executing s asked)).posts ≤ 384
      go None = executing-posts asked
      go (Some r) = omega arith

-- ---- a refused record leaves the network as it was, and posts nothing
executing-refused : (s : State) (asked : Record) (r : Reason) → (executing s asked).said ≡ no r → executing s asked ≡ refused s r
executing-refused s (Call call) r e = call-refused-same s call r e
executing-refused s (Declare serial) r e = call-refused-same s (Order (DeclareOrder (value_of (coded serial)))) r e
executing-refused s (Owner start serial) r e = λ i. record { state = s; posts = []; said = e i }
executing-refused s (Drain budget) r e = drain_refused_same s budget r e
executing-refused s Peek r e = λ i. record { state = s; posts = []; said = e i }

pub lists-refused-same : (s : State) (asked : Record) (r : Reason) → (execute_of s asked).said ≡ no r → execute_of s asked ≡ refused s r
unfolding execute_of
lists-refused-same s asked r e = go (first ((6 when not (well_formed s)) ∷ field_rules s asked)) e
  where
    go : (o : Option Reason) → (unless_refused o (refused s) (executing s asked)).said ≡ no r → unless_refused o (refused s) (executing s asked) ≡ refused s r
    go None f = executing-refused s asked r f
    go (Some n) f = cc

-- ---- the line of PK: five digits of the ordinal, and two of the messages that wait
pub peek-line : (s : State) → T (well_formed s) → (ordinal : ℕ) → ordinal < 100_000 → length (line_of ordinal (execute_of s Peek).said) ≤ 20
unfolding execute_of peek_of line_of
peek-line s w ordinal few =
    let waiting = length s.messages in
    let few_messages : waiting ≤ 64 = (well-formed s (is_true _ w)).few_messages in
    rw (is_true (well_formed s) w)
    (simp length-append (omega (arith, few-digits 5 ordinal (omega arith) (omega arith), few-digits 1 0 (omega arith) (omega arith), few-digits 2 waiting (omega arith) (omega arith))))
