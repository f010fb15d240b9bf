-- A record on the arrays of a well-formed network is its task: a call, a question or a drain is
-- that of the lists, and where a field is refused the very network comes back with the reason. A
-- question leaves the network as it is. Assumes nothing.
use mathlib.Core.Path.{◌≡◌, refl, sym, ap, ◌∙◌}
use mathlib.Core.Logic.{⊎_elim}
use mathlib.Core.Bool.{true, false, not}
use mathlib.Core.List.{[], ◌∷◌}
use Rattle.std.specs.Prelude.{Option, None, Some, Result, Ok, Err}
use Prim.Native.Nat.{ℕ, ◌≤◌, ◌<◌}
use native.Mathlib.Omega.{arith}
use lib.ListN.{length}
use lib.Dec.{ltb}
use borrow.Author.Tests.{ltb-true, ltb-false, lt-ltb, le-ltb}
use Rattle.predicates.proofs.TestLaws.{decided}
use Rattle.refusal.specs.Code.{Reason, plain}
use Rattle.refusal.specs.Rules.{Coded, done, no, ◌when◌, first, unless_refused}
use Rattle.serial.specs.declared.SerialError.{SerialError}
use Rattle.serial.specs.declared.SerialError.TheVariants.{BadDigit, TooLarge}
use Rattle.serial.specs.Serial.{coded}
use Rattle.protocol.specs.declared.Reply.{Reply}
use Rattle.protocol.specs.declared.Reply.TheVariants.{Ran}
use Rattle.protocol.specs.Answer.{answered}
use Rattle.protocol.specs.State.{State, declared, well_formed as lists_are_well_formed}
use Rattle.protocol.specs.Calls.{refused as lists_refused}
use Rattle.protocol.specs.Questions.{peek_of as peek_in_lists, owner_of as owner_in_lists}
use Rattle.network.specs.declared.Network.{Network}
use Rattle.network.specs.Arrays.{live, well_formed, held}
use Rattle.network.proofs.Lengths.{Lengths}
use Rattle.network.proofs.ArrayLaws.{well-formed, held-live}
use Rattle.network.proofs.LiveLaws.{nodes-length, messages-length}
use Rattle.owners.specs.Owners.{owner_asked}
use Rattle.owners.proofs.QuestionLaws.{owner-live}
use Rattle.script.specs.declared.Record.{Record}
use Rattle.script.specs.declared.Record.TheVariants as asks
use Rattle.report.specs.declared.Report.{Report}
use Rattle.engine.specs.Outcomes.{Applied, counted, reported, refused, in_arrays, apply_of, drain_of}
use Rattle.engine.specs.Answers.{owner_of}
use Rattle.course.specs.Execution.{field_rules, value_of, saying, executing, execute_of as execute_on_lists}
use Rattle.engine.specs.InArrays.{execute_of}
use Rattle.task.specs.Tasks.{task_of}
use Rattle.engine.specs.Computed.{done_on}

-- what is only said, or refused, leaves the lists and posts nothing
quiet : (s : State) {n : Network} → held s ≡ n → (o : Option Reason) (said : Coded Reply)
    → in_arrays (unless_refused o (lists_refused s) (saying s said)) ≡ record { network = n; posts = []; said = (unless_refused o (lists_refused s) (saying s said)).said }
quiet s e None said = rw e
quiet s e (Some r) said = rw e

-- r is a report of what was done, beside the network m that it left
abbrev pub Reports : Applied → Report → Network → Type 0
Reports a r m = reported m r ≡ counted a

-- what is only told is reported so
pub told_so : (n : Network) (r : Report) {said : Coded Reply} → answered r.answer ≡ said → r.posted ≡ 0 → Reports (record { network = n; posts = []; said = said }) r n
told_so n r e none-posted = λ i. record { network = n; posted = none-posted i; said = e i }

-- 6 is told
pub six-told : (n : Network) (r : Report) {a : Applied} → a ≡ refused n (plain 6) → answered r.answer ≡ no (plain 6) → r.posted ≡ 0 → Reports a r n
six-told n r e says none-posted = told_so n r says none-posted ∙ ap counted (sym e)

module _ (n : Network) (l : Lengths n) (h : well_formed n ≡ true) where
  same : held (live n) ≡ n
  same = held-live n l.nodes l.messages h

  -- ---- a question, as a record asks it, leaves the network and posts nothing, refused or not
  module _ (asked : Record) (says : Coded Reply) (question : executing (live n) asked ≡ saying (live n) says) where
    question-leaves : execute_of n asked ≡ record { network = n; posts = []; said = (execute_of n asked).said }
    unfolding execute_of execute_on_lists
    question-leaves = rw (h, question) (quiet (live n) same (first ((6 when not (lists_are_well_formed (live n))) ∷ field_rules (live n) asked)) says)

    question-told : (r : Report) → answered r.answer ≡ (execute_of n asked).said → r.posted ≡ 0 → Reports (execute_of n asked) r n
    question-told r told none-posted = told_so n r told none-posted ∙ ap counted (sym question-leaves)

  -- ---- the owner of a serial, as a record asks it
  module _ (start : ℕ) where
    owner-undeclared : (serial : Result ℕ SerialError) → n.count ≤ start → no (plain 5) ≡ (execute_of n (asks.Owner start serial)).said
    unfolding execute_of execute_on_lists
    owner-undeclared serial past =
        let absent : declared (live n) start ≡ false = le-ltb start (length (live n).nodes) (omega (arith, nodes-length n l h)) in
        simp (h, (well-formed n h).lists, absent)

    known : start < n.count → declared (live n) start ≡ true
    known here = lt-ltb start (length (live n).nodes) (omega (arith, nodes-length n l h))

    owner-serial-refused : start < n.count → (serial : Result ℕ SerialError) (r : Reason) → coded serial ≡ no r → no r ≡ (execute_of n (asks.Owner start serial)).said
    unfolding execute_of execute_on_lists
    owner-serial-refused here serial r e = rw (h, (well-formed n h).lists, known here, e)

    owner-asked : start < n.count → {serial : Result ℕ SerialError} {value : ℕ} → serial ≡ Ok value → owner_of n start value ≡ (execute_of n (asks.Owner start serial)).said
    unfolding execute_of execute_on_lists owner_of
    owner-asked here e = rw (h, (well-formed n h).lists, known here, e)

    -- what the arrays are asked is what the record says
    owner-executed : (serial : Result ℕ SerialError) → owner_asked n start serial ≡ (execute_of n (asks.Owner start serial)).said
    unfolding owner_of
    owner-executed serial = ⊎_elim (λ t. there (ltb-true start n.count t) serial) (λ f. absent f serial) (decided (ltb start n.count))
      where
        there : start < n.count → (serial : Result ℕ SerialError) → owner_asked n start serial ≡ (execute_of n (asks.Owner start serial)).said
        there here (Ok value) = owner-live n l h start value ∙ rw h at (owner-asked here {serial = Ok value} {value = value} refl)
        there here (Err BadDigit) = rw (lt-ltb start n.count here) (owner-serial-refused here (Err BadDigit) _ refl)
        there here (Err TooLarge) = rw (lt-ltb start n.count here) (owner-serial-refused here (Err TooLarge) _ refl)

        absent : ltb start n.count ≡ false → (serial : Result ℕ SerialError) → owner_asked n start serial ≡ (execute_of n (asks.Owner start serial)).said
        absent f (Ok value) = rw f (owner-undeclared (Ok value) (ltb-false start n.count f))
        absent f (Err BadDigit) = rw f (owner-undeclared (Err BadDigit) (ltb-false start n.count f))
        absent f (Err TooLarge) = rw f (owner-undeclared (Err TooLarge) (ltb-false start n.count f))

    -- the answer, told
    pub owner-told : (serial : Result ℕ SerialError) (r : Report) → answered r.answer ≡ owner_asked n start serial → r.posted ≡ 0 → Reports (execute_of n (asks.Owner start serial)) r n
    owner-told serial r says none-posted =
        question-told (asks.Owner start serial) (owner_in_lists (live n) start (value_of (coded serial))) refl r (says ∙ owner-executed serial) none-posted

  -- ---- how many messages wait, as a record asks it
  pub peeked : peek_in_lists (live n) ≡ done (Ran 0 n.waiting)
  unfolding peek_in_lists
  peeked = rw ((well-formed n h).lists, messages-length n l h)

  peek-executed : (execute_of n asks.Peek).said ≡ done (Ran 0 n.waiting)
  unfolding execute_of execute_on_lists
  peek-executed = rw (h, (well-formed n h).lists) peeked

  pub peek-told : (r : Report) → answered r.answer ≡ done (Ran 0 n.waiting) → r.posted ≡ 0 → Reports (execute_of n asks.Peek) r n
  peek-told r says none-posted = question-told asks.Peek (peek_in_lists (live n)) refl r (says ∙ sym peek-executed) none-posted

  -- ---- a record is its task
  pub task-done : (asked : Record) → counted (done_on n (task_of asked)) ≡ counted (execute_of n asked)
  unfolding execute_of execute_on_lists apply_of drain_of
  task-done (asks.Call call) = rw (h, (well-formed n h).lists)
  task-done (asks.Declare (Ok key)) = rw (h, (well-formed n h).lists)
  task-done (asks.Declare (Err BadDigit)) = rw (h, (well-formed n h).lists, same)
  task-done (asks.Declare (Err TooLarge)) = rw (h, (well-formed n h).lists, same)
  task-done (asks.Owner start serial) = refl
  task-done (asks.Drain budget) = rw (h, (well-formed n h).lists)
  task-done asks.Peek = refl
