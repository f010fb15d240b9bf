-- A step of the code is a step of the definition: what is asked at the cursor is done to the lists
-- that the arrays hold as to the arrays, and its line follows what has been printed. Assumes
-- nothing.
use mathlib.Core.Path.{◌≡◌, refl, ap, ◌∙◌}
use mathlib.Core.Bool.{true}
use mathlib.Core.List.{List, ◌++◌}
use Prim.Native.Nat.{ℕ, ◌+◌, ◌%◌, ◌^◌, ◌≤◌, ◌<◌}
use lib.ListN.{length, length-append}
use Rattle.refusal.specs.Code.{Reason, plain}
use Rattle.refusal.specs.Rules.{Coded, done as replied, no}
use native.Mathlib.Omega.{arith}
use native.Mathlib.Nat.{mod-eq_of_lt}
use Rattle.text.specs.Text.{decimal}
use Rattle.network.specs.declared.Network.{Network}
use Rattle.network.specs.Arrays.{live, well_formed}
use Rattle.network.proofs.ArrayLaws.{live-held}
use Rattle.network.proofs.Lengths.{Lengths}
use Rattle.script.specs.Script.{Read, end, stop, next, read_at}
use Rattle.script.proofs.Laws.{before-end}
use Rattle.protocol.specs.declared.Reply.{Reply}
use Rattle.report.specs.declared.Report.{Report}
use Rattle.protocol.specs.Answer.{answered}
use Rattle.printout.specs.Lines.{heading, line_of, last_line}
use Rattle.printout.specs.Writing.{printed, LongerByALine}
use Rattle.printout.proofs.Laws.{printed_whole}
use Rattle.progress.specs.declared.Progress.{Progress}
use Rattle.progress.specs.Leaving.{posted_after, left, line_after, refused as refused_text}
use Rattle.engine.specs.declared.printing.Kept.{Kept}
use Rattle.course.specs.Execution.{execute_of as execute_on_lists}
use Rattle.course.specs.Run.{Progress as Reached, step_of, too_long}
use Rattle.engine.specs.Outcomes.{Counted, counted, refused, reported}
use Rattle.engine.specs.InArrays.{execute_of}
use Rattle.engine.specs.Reached.{reached, text_size}
use Rattle.engine.proofs.RecordLaws.{on-lists, stays-well-formed, few-posted, refused-unchanged}
use Rattle.engine.proofs.TaskLaws.{task-done}
use Rattle.std.specs.Prelude.{Result, Ok, Err}
use Rattle.refusal.specs.declared.Refusal.{Refusal}
use Rattle.task.specs.declared.Task.{Task}
use Rattle.task.specs.declared.Task.TheVariants as task
use Rattle.task.specs.declared.Asked.{Asked}
use Rattle.engine.specs.Computed.{done_on, Allowed}
use Rattle.task.specs.Tasks.{Asks}

-- ---- what a step starts from and ends in, and how far that is; what the contract of a step asks,
-- and what it ensures
pub record State : Type 0 where
  pub kept : Kept
  pub text : List ℕ
  pub progress : Progress

abbrev pub far : State → Reached
far x = reached x.kept.network x.progress x.text

abbrev pub MayStep : List ℕ → State → Type 0
MayStep script x =
    (well_formed x.kept.network ≡ true)
    × (x.progress.at < length script)
    × (length x.text + 40 ≤ text_size)
    × (x.progress.ordinal < 100_000)
    × (x.progress.posted < 100_000_000)

abbrev pub Stepped : (script : List ℕ) → State → State → Type 0
Stepped script x y = (far y ≡ step_of script (far x)) × (well_formed y.kept.network ≡ true) × LongerByALine x.text y.text

-- ---- what is asked at the cursor is allowed
pub allowed : (n : Network) → well_formed n ≡ true → (t : Result Task Refusal) → Allowed n t
allowed n h (Err r) = tt
allowed n h (Ok (task.Call call)) = h
allowed n h (Ok (task.Owner start serial)) = h
allowed n h (Ok (task.Drain budget)) = h
allowed n h (Ok task.Peek) = h

-- what a record's line and its end leave, beside the network
abbrev pub Left : (p r : Progress) (after : ℕ) (x : Counted) (text buffer : List ℕ) → Type 0
Left p r after x text buffer =
    (r.at ≡ after)
    × (r.ordinal ≡ p.ordinal + 1)
    × (r.posted ≡ p.posted + x.posted)
    × (buffer ≡ text ++ line_of (p.ordinal + 1) x.said)
    × (length buffer ≤ length text + 40)

-- ---- a step: what is asked was done on a well-formed network, and it was not the end of the
-- script
module _ (script : List ℕ) (n : Network) (l : Lengths n) (h : well_formed n ≡ true) where
  -- what is known of what was done
  pub record Done (x : Counted) (at : ℕ) (a : Asked) : Type 0 where
    pub kept : well_formed x.network ≡ true
    pub few : x.posted ≤ 384
    pub quiet : (r : Reason) → x.said ≡ no r → x.posted ≡ 0
    pub comes : (p r : Progress) (text buffer : List ℕ) → p.at ≡ at → Left p r a.after x text buffer → reached x.network r buffer ≡ step_of script (reached n p text)

  pub does : (at : ℕ) → at < length script → (a : Asked) → Asks (length script) (read_at script at) a → (x : Counted) → x ≡ counted (done_on n a.task) → Done x at a
  does at inside a = go (read_at script at) refl
    where
      go : (read : Read) → read_at script at ≡ read → Asks (length script) read a → (x : Counted) → x ≡ counted (done_on n a.task) → Done x at a
      go end e asks x done = absurd (before-end script at inside e)
      go (stop q) e (r, asked, says, cursor) x done =
          let told : x ≡ counted (refused n q) = done ∙ ap (λ t. counted (done_on n t)) asked ∙ ap (λ m. counted (refused n m)) says in
          record {
            kept = rw told h;
            few = rw told (omega arith);
            quiet = λ m f. ap (λ (y : Counted). y.posted) told;
            comes = λ p r text buffer here (left, ordinal, posted, printed, _).
                let none : p.posted + 0 ≡ p.posted = omega arith in
                (λ i. record { state = live (told i).network; at = (left ∙ cursor) i; ordinal = ordinal i; posted = (posted ∙ ap (λ (y : Counted). p.posted + y.posted) told ∙ none) i; text = (printed ∙ ap (λ (y : Counted). text ++ line_of (p.ordinal + 1) y.said) told) i })
                ∙ rw (here, e);
          }
      go (next asked c) e (is, cursor) x done =
          let executed : x ≡ counted (execute_of n asked) = done ∙ ap (λ t. counted (done_on n t)) is ∙ task-done n l h asked in
          let lists : live x.network ≡ (execute_on_lists (live n) asked).state = ap (λ (y : Counted). live y.network) (on-lists n h asked x executed) ∙ live-held (execute_on_lists (live n) asked).state in
          let here-posted : x.posted ≡ length (execute_on_lists (live n) asked).posts = ap (λ (y : Counted). y.posted) (on-lists n h asked x executed) in
          let here-said : x.said ≡ (execute_on_lists (live n) asked).said = ap (λ (y : Counted). y.said) (on-lists n h asked x executed) in
          record {
            kept = stays-well-formed n h asked x executed;
            few = few-posted n h asked x executed;
            quiet = λ r f. (refused-unchanged n h asked x executed l r f).1;
            comes = λ p r text buffer here (left, ordinal, posted, printed, _).
                (λ i. record { state = lists i; at = (left ∙ cursor) i; ordinal = ordinal i; posted = (posted ∙ ap (λ k. p.posted + k) here-posted) i; text = (printed ∙ ap (λ s. text ++ line_of (p.ordinal + 1) s) here-said) i })
                ∙ rw (here, e);
          }

-- ---- a script that is refused as a whole, after the heading
short_refusal : length (line_of 0 (no (plain 7))) ≤ 40
unfolding line_of decimal
short_refusal = omega arith

pub refused-whole : {text after : List ℕ} → text ≡ heading → after ≡ refused_text text_size text → after ≡ too_long
refused-whole reads written =
    let line = line_of 0 (no (plain 7)) in
    let first : printed text_size heading line ≡ heading ++ line = printed_whole text_size heading line (omega arith) in
    let room : length (heading ++ line) + 40 ≤ text_size = omega (arith, length-append heading line, short_refusal) in
    written ∙ rw (reads, first) (printed_whole text_size (heading ++ line) (last_line 0 0) room)

-- ---- a record that is left, where there is room and no count wraps
module _ (p r : Progress) (after : ℕ) (m : Network) (report : Report) (text buffer : List ℕ) (may : (length text + 40 ≤ text_size) × (p.ordinal < 100_000) × (p.posted < 100_000_000))
    (few : report.posted ≤ 384) (quiet : (q : Reason) → answered report.answer ≡ no q → report.posted ≡ 0) where
  summed : (s : Coded Reply) → answered report.answer ≡ s → posted_after p.posted s report.posted ≡ p.posted + report.posted
  summed (replied reply) e = mod-eq_of_lt (omega (arith, may.2, few))
  summed (no q) e = omega (arith, quiet q e)

  pub leaves-so : r ≡ left p after report → buffer ≡ printed text_size text (line_after p report) → length buffer ≤ length text + 40 → Left p r after (reported m report) text buffer
  leaves-so is line short =
      let next : (p.ordinal + 1) % 2 ^ 32 ≡ p.ordinal + 1 = mod-eq_of_lt (omega (arith, may.1)) in (
        ap (λ (q : Progress). q.at) is,
        ap (λ (q : Progress). q.ordinal) is ∙ next,
        ap (λ (q : Progress). q.posted) is ∙ summed (answered report.answer) refl,
        line ∙ printed_whole _ _ _ may.0 ∙ ap (λ o. text ++ line_of o (answered report.answer)) next,
        short,
      )
