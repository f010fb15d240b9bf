-- Every script is a list of calls, record by record: a record that is refused for one of its
-- fields, and a question, leave the network as it is; every other record is the call or the
-- deliveries that it asks for. Assumes nothing.
use mathlib.Core.Path.{◌≡◌, refl, sym, ap, ◌∙◌}
use mathlib.Core.Logic.{⊎_elim}
use mathlib.Core.Bool.{false}
use mathlib.Core.List.{List, [], ◌∷◌, ◌++◌, map, append-nil, append_assoc}
use mathlib.Core.List.Memᴰ.{append_cases as in-part}
use mathlib.Core.List.Memᴰ.{eq_of_singleton as in_one}
use mathlib.Core.List.Memᴰ.{not-nil as in-none}
use Rattle.std.specs.Prelude.{Option, None, Some, Ok, Err}
use Prim.Native.Nat.{ℕ, zero, suc, ◌+◌}
use native.Mathlib.Omega.{arith}
use lib.ListN.{length, length-append}
use lib.Dec.{T, eqb}
use borrow.Author.Tests.{eqb-false}
use Rattle.predicates.proofs.Laws.{impossible}
use Rattle.predicates.proofs.TestLaws.{◌∈◌, is_true}
use Rattle.refusal.specs.Code.{Reason, plain}
use Rattle.refusal.specs.Rules.{Coded, done, no, first, unless_refused}
use Rattle.serial.specs.declared.SerialError.TheVariants.{BadDigit, TooLarge}
use Rattle.protocol.specs.declared.Order.TheVariants.{Declare}
use Rattle.protocol.specs.declared.Call.{Call}
use Rattle.protocol.specs.declared.Call.TheVariants.{Order, Deliver}
use Rattle.protocol.specs.declared.Reply.{Reply}
use Rattle.protocol.specs.declared.Reply.TheVariants.{Ran}
use Rattle.protocol.specs.State.{State, requests, well_formed}
use Rattle.protocol.specs.Calls.{Result, refused, apply_of}
use Rattle.protocol.specs.History.{History, start, history}
use Rattle.protocol.specs.Questions.{peek_of}
use Rattle.protocol.specs.Drain.{places, drain_of}
use Rattle.protocol.proofs.Drains.{run_append, drain_is, drain_is_calls, unlimited}
use Rattle.protocol.proofs.Owners.{always_found}
use Rattle.protocol.proofs.Theorem.{ring}
use Rattle.script.specs.declared.Record.{Record}
use Rattle.script.specs.declared.Record.TheVariants.{Call as CallRecord, Declare as DeclareRecord, Owner as OwnerRecord, Drain as DrainRecord, Peek as PeekRecord}
use Rattle.script.specs.Script.{Read, end, stop, next, read_at}
use Rattle.script.proofs.Laws.{stops-by}
use Rattle.printout.specs.Lines.{heading, line_of}
use Rattle.course.specs.Execution.{field_rules, saying, executing, execute_of}
use Rattle.course.proofs.NeverLaws.{never-six, never_31}
use Rattle.course.specs.Run.{Progress, advanced, after}
use Rattle.course.specs.Claim.{calls_of, calls_read, script_calls, answer_to, answers_of, lines, ScriptClaim}

-- ---- what a record leads to is what its calls lead to
pub record Follows (calls more : List Call) (p : Result) : Type 0 where
  pub state : p.state ≡ (history (calls ++ more)).state
  pub posts : (history calls).posts + length p.posts ≡ (history (calls ++ more)).posts

module _ (calls : List Call) where
  abbrev here : State
  here = (history calls).state

  nothing-more : (p : Result) → p.state ≡ here → length p.posts ≡ 0 → Follows calls [] p
  nothing-more p state posts = record {
    state = state ∙ ap (λ (cs : List Call). (history cs).state) (sym (append-nil calls));
    posts = rw append-nil (omega (arith, posts));
  }

  one-call : (call : Call) → Follows calls (call ∷ []) (apply_of here call)
  one-call call =
      let more = run_append start calls (call ∷ []) in
      record { state = sym (ap (λ (h : History). h.state) more); posts = sym (ap (λ (h : History). h.posts) more) }

  well-formed : T (well_formed here)
  well-formed = (ring calls).well_formed

  drained-so : (budget : ℕ) → Follows calls (map Deliver (places budget here)) (drain_of here budget)
  drained-so budget = let d = drain_is_calls calls budget in record { state = d.state; posts = d.posts }

  done-so : (asked : Record) → first (field_rules here asked) ≡ None → Follows calls (calls_of here asked) (executing here asked)
  done-so (CallRecord call) clear = one-call call
  done-so (DeclareRecord (Ok key)) clear = one-call (Order (Declare key))
  done-so (DeclareRecord (Err BadDigit)) clear = impossible cc
  done-so (DeclareRecord (Err TooLarge)) clear = impossible cc
  done-so (OwnerRecord from serial) clear = nothing-more (executing here (OwnerRecord from serial)) refl refl
  done-so (DrainRecord budget) clear = drained-so budget
  done-so PeekRecord clear = nothing-more (executing here PeekRecord) refl refl

  refused-so : (asked : Record) (r : Reason) → first (field_rules here asked) ≡ Some r → Follows calls (calls_of here asked) (refused here r)
  refused-so (CallRecord call) r e = impossible cc
  refused-so (DeclareRecord (Ok key)) r e = impossible cc
  refused-so (DeclareRecord (Err BadDigit)) r e = nothing-more (refused here r) refl refl
  refused-so (DeclareRecord (Err TooLarge)) r e = nothing-more (refused here r) refl refl
  refused-so (OwnerRecord from serial) r e = nothing-more (refused here r) refl refl
  refused-so (DrainRecord budget) r e = impossible cc
  refused-so PeekRecord r e = impossible cc

  follows : (asked : Record) → Follows calls (calls_of here asked) (execute_of here asked)
  unfolding execute_of
  follows asked = rw (is_true (well_formed here) well-formed) (go (first (field_rules here asked)) refl)
    where
      go : (o : Option Reason) → first (field_rules here asked) ≡ o → Follows calls (calls_of here asked) (unless_refused o (refused here) (executing here asked))
      go None clear = done-so asked clear
      go (Some r) refuses = refused-so asked r refuses

  -- RD with budget 0 leaves nothing waiting, and says so
  drains-to-the-end : ((execute_of here (DrainRecord 0)).state.messages ≡ []) × ((execute_of here (DrainRecord 0)).said ≡ done (Ran (length (places 0 here)) 0))
  unfolding execute_of
  drains-to-the-end =
      let w = is_true (well_formed here) well-formed in
      let none = (unlimited here well-formed).nothing_waits in
      (rw (w, drain_is here 0 well-formed, none), rw (w, drain_is here 0 well-formed, none))

  -- and PK tells how many messages wait
  peeks : execute_of here PeekRecord ≡ saying here (done (Ran 0 (length here.messages)))
  unfolding execute_of peek_of
  peeks = rw (is_true (well_formed here) well-formed)

-- ---- record by record
abbrev Sofar : List Call → Progress → Type 0
Sofar calls p = (p.state ≡ (history calls).state) × (p.posted ≡ (history calls).posts)

one_more : (script : List ℕ) (calls : List Call) (p : Progress) → Sofar calls p → (r : Read) → Sofar (calls ++ calls_read p.state r) (advanced script p r)
one_more script calls p (state, posts) end = rw (append-nil calls) (state, posts)
one_more script calls p (state, posts) (stop r) = rw (append-nil calls) (state, posts)
one_more script calls p (state, posts) (next asked c) =
    let f = follows calls asked in
    rw state (f.state, omega (arith, posts, f.posts))

sofar : (script : List ℕ) (k : ℕ) → Sofar (script_calls script k) (after script k)
sofar script zero = (refl, refl)
sofar script (suc k) = one_more script (script_calls script k) (after script k) (sofar script k) (read_at script (after script k).at)

-- ---- the printout, answer by answer
lines_append : (ordinal : ℕ) (said : List (Coded Reply)) (last : Coded Reply) → lines ordinal (said ++ last ∷ []) ≡ lines ordinal said ++ line_of (ordinal + length said) last
lines_append ordinal [] last = let none_before : ordinal + 0 ≡ ordinal = omega arith in rw (none_before, append-nil)
lines_append ordinal (x ∷ said) last =
    let one_less : suc ordinal + length said ≡ ordinal + suc (length said) = omega arith in
    ap (λ (l : List ℕ). line_of ordinal x ++ l) (lines_append (suc ordinal) said last ∙ ap (λ (k : ℕ). lines (suc ordinal) said ++ line_of k last) one_less)
    ∙ sym (append_assoc (line_of ordinal x) (lines (suc ordinal) said) (line_of (ordinal + suc (length said)) last))

-- so many answers as records, and their lines after the heading
abbrev Told : List (Coded Reply) → Progress → Type 0
Told said p = (p.ordinal ≡ length said) × (p.text ≡ heading ++ lines 1 said)

one_line : (said : List (Coded Reply)) (last : Coded Reply) (ordinal : ℕ) (text : List ℕ) → ordinal ≡ length said → text ≡ heading ++ lines 1 said
    → (ordinal + 1 ≡ length (said ++ last ∷ [])) × (text ++ line_of (ordinal + 1) last ≡ heading ++ lines 1 (said ++ last ∷ []))
one_line said last ordinal text counts reads =
    let next : ordinal + 1 ≡ 1 + length said = omega arith in (
      simp length-append (omega arith),
      rw (reads, next, lines_append 1 said last) (append_assoc heading (lines 1 said) (line_of (1 + length said) last)),
    )

one_answer : (script : List ℕ) (said : List (Coded Reply)) (p : Progress) → Told said p → (r : Read) → Told (said ++ answer_to p.state r) (advanced script p r)
one_answer script said p t end = rw (append-nil said) t
one_answer script said p (counts, reads) (stop r) = one_line said (no r) p.ordinal p.text counts reads
one_answer script said p (counts, reads) (next asked c) = one_line said (execute_of p.state asked).said p.ordinal p.text counts reads

told : (script : List ℕ) (k : ℕ) → Told (answers_of script k) (after script k)
told script zero = (refl, sym (append-nil heading))
told script (suc k) = one_answer script (answers_of script k) (after script k) (told script k) (read_at script (after script k).at)

-- ---- numbers that no line says: the reading stops by 1 and 2, and no record says them
not-said : (n : ℕ) → eqb 1 n ≡ false → eqb 2 n ≡ false → (s : State) → ((asked : Record) → ¬ ((execute_of s asked).said ≡ no (plain n)))
    → (script : List ℕ) (at : ℕ) → ¬ (no (plain n) ∈ answer_to s (read_at script at))
not-said n one two s executed script at = go (read_at script at) refl
  where
    go : (r : Read) → read_at script at ≡ r → ¬ (no (plain n) ∈ answer_to s r)
    go end read i = in-none i
    go (stop r) read i =
        let e = in_one i in
        ⊎_elim (λ (f : r ≡ plain 1). eqb-false 1 n one cc) (λ (f : r ≡ plain 2). eqb-false 2 n two cc) (stops-by script at r read)
    go (next asked c) read i = executed asked (sym (in_one i))

none-says : (n : ℕ) → eqb 1 n ≡ false → eqb 2 n ≡ false → (script : List ℕ) → ((k : ℕ) (asked : Record) → ¬ ((execute_of (after script k).state asked).said ≡ no (plain n)))
    → (k : ℕ) → ¬ (no (plain n) ∈ answers_of script k)
none-says n one two script executed zero i = in-none i
none-says n one two script executed (suc k) i =
    ⊎_elim (none-says n one two script executed k) (not-said n one two (after script k).state (executed k) script (after script k).at) (in-part (answers_of script k) i)

pub script_is_calls : ScriptClaim
script_is_calls script k =
    let (network, posts) = sofar script k in
    record {
      network = network;
      posts = posts;
      sound = ring (script_calls script k);
      accounts = omega (arith, posts, (ring (script_calls script k)).accounts, ap (λ (s : State). requests s.messages) network);
      settled = rw network (ring (script_calls script k)).settled;
      printed = (told script k).1;
      never_6 = none-says 6 refl refl script
          (λ j. rw (sofar script j).0 (never-six (history (script_calls script j)).state (ring (script_calls script j)).well_formed)) k;
      never_31 = none-says 31 refl refl script
          (λ j. rw (sofar script j).0 (never_31 (script_calls script j))) k;
      found = λ from serial. rw network (always_found (script_calls script k) from serial);
      emptied = rw network (drains-to-the-end (script_calls script k)).0;
      drained = rw network (drains-to-the-end (script_calls script k)).1;
      peeked = rw network (peeks (script_calls script k));
    }
