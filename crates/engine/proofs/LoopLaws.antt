-- The loop over the records of a script: at each turn the code has come as far as the definition
-- after as many records, and at the end no more of them would change anything. Assumes nothing.
use mathlib.Core.Path.{◌≡◌, refl, sym, ap, ◌∙◌}
use mathlib.Core.Bool.{true}
use mathlib.Core.List.{List, ◌++◌}
use Prim.Native.Nat.{ℕ, ◌+◌, ◌*◌, ◌-◌, ◌≤◌, ◌<◌}
use native.Mathlib.Omega.{arith}
use native.Mathlib.Nat.{sub-add_cancel}
use native.Mathlib.Numerals.{add-one}
use lib.ListN.{length, length-append}
use borrow.Author.Tests.{lt-ltb, le-ltb}
use Rattle.protocol.specs.State.{well_formed as lists_are_well_formed, empty as empty_lists}
use Rattle.network.specs.Arrays.{live, well_formed, empty}
use Rattle.network.proofs.ArrayLaws.{live-held, held_well_formed}
use Rattle.network.proofs.LiveLaws.{messages-length}
use Rattle.network.proofs.Lengths.{Lengths}
use Rattle.script.specs.declared.Record.{Record}
use Rattle.script.specs.declared.Record.TheVariants.{Call, Declare, Owner, Drain, Peek}
use Rattle.script.specs.Script.{Read, end, stop, next, read_at}
use Rattle.script.proofs.Laws.{least, before-end, after-cursor}
use Rattle.printout.specs.Lines.{heading, line_of, last_line}
use Rattle.progress.specs.declared.Progress.{Progress}
use Rattle.engine.specs.declared.printing.Kept.{Kept}
use Rattle.course.specs.Execution.{execute_of}
use Rattle.course.specs.Run.{Progress as Reached, start, advanced, step_of, after, closed, size_limit, too_long, printout_of}
use Rattle.engine.specs.Reached.{reached, text_size}
use Rattle.engine.proofs.StepOfScript.{State, far, MayStep, Stepped}
use Rattle.course.proofs.RecordLaws.{peek-line}
use Rattle.course.proofs.ScriptLaws.{Within, step-within, one-record, cursor-moves, ended-after}

-- forty bytes of the text for three of the script; the last record may be cut short
pub record Short (script : List ℕ) (x : State) : Type 0 where
  pub between : x.progress.at < length script → 3 * length x.text ≤ 40 + 40 * x.progress.at
  pub all : 3 * length x.text ≤ 120 + 40 * x.progress.at

-- what holds at each turn
pub record Turn (script : List ℕ) (x : State) : Type 0 where
  pub sound : well_formed x.kept.network ≡ true
  pub within : Within script (far x)
  pub come : far x ≡ after script x.progress.ordinal
  pub short : Short script x

-- ---- before the first record
abbrev pub begun : Progress
begun = record { at = 0; ordinal = 0; posted = 0 }

pub first-turn : (script text : List ℕ) (k : Kept) → k.network ≡ empty → text ≡ heading → Turn script (record { kept = k; text = text; progress = begun })
unfolding lists_are_well_formed
first-turn script text k e printed =
    let here : reached k.network begun text ≡ start = rw (e, printed, live-held empty_lists) in
    record {
      sound = rw e (held_well_formed empty_lists refl);
      within = rw here record { sound = tt; inside = omega arith; records = λ l. omega arith; few = omega arith; posts = omega arith };
      come = here;
      short = record { between = λ l. omega (arith, ap length printed); all = omega (arith, ap length printed) };
    }

-- ---- at any turn over a script within the limit
module _ (script : List ℕ) (x : State) (t : Turn script x) (size : length script ≤ size_limit) where
  few-records : x.progress.ordinal ≤ 32_768
  few-records = omega (arith, t.within.few, t.within.inside)

  pub has_room : length x.text + 40 ≤ text_size
  has_room = omega (arith, t.within.inside, t.short.all)

  pub may-step : x.progress.at < length script → MayStep script x
  may-step not-ended = (t.sound, not-ended, has_room, omega (arith, few-records), omega (arith, few-records, t.within.posts))

  -- ---- one record more
  module _ (not-ended : x.progress.at < length script) (y : State) (stepped : Stepped script x y) where
    next-ordinal : y.progress.ordinal ≡ x.progress.ordinal + 1
    next-ordinal = ap (λ (r : Reached). r.ordinal) stepped.0 ∙ one-record script (far x) t.within not-ended

    -- forty bytes of line for the three of a record; and where it is cut short, for its one
    line-fits : (r : Read) → read_at script x.progress.at ≡ r → Short script y
    line-fits end e = absurd (before-end script x.progress.at not-ended e)
    line-fits (stop r) e =
        let ended : far y ≡ advanced script (far x) (stop r) = stepped.0 ∙ ap (advanced script (far x)) e in
        let ends : y.progress.at ≡ length script = ap (λ (p : Reached). p.at) ended in
        record { between = λ more. absurd (omega (arith, ends, more)); all = omega (arith, ends, not-ended, t.short.between not-ended, stepped.2) }
    line-fits (next asked c) e = by-record asked moved (after-cursor script x.progress.at asked c e).0
      where
        moved : far y ≡ advanced script (far x) (next asked c)
        moved = stepped.0 ∙ ap (advanced script (far x)) e

        cursor : y.progress.at ≡ c
        cursor = ap (λ (p : Reached). p.at) moved

        -- a line of so many bytes at most
        by-line : (most : ℕ) → length y.text ≤ length x.text + most → 3 * most + 40 * x.progress.at ≤ 40 * c
            → Short script y
        by-line most line fits = record { between = λ _. omega (arith, cursor, t.short.between not-ended, line, fits); all = omega (arith, cursor, t.short.between not-ended, line, fits) }

        by-record : (asked : Record) → far y ≡ advanced script (far x) (next asked c) → x.progress.at + least asked ≤ c
            → Short script y
        by-record (Call call) e past = by-line 40 stepped.2 (omega (arith, past))
        by-record (Declare serial) e past = by-line 40 stepped.2 (omega (arith, past))
        by-record (Owner from serial) e past = by-line 40 stepped.2 (omega (arith, past))
        by-record (Drain budget) e past = by-line 40 stepped.2 (omega (arith, past))
        by-record Peek e past =
            let line = line_of (x.progress.ordinal + 1) (execute_of (live x.kept.network) Peek).said in
            let printed : y.text ≡ x.text ++ line = ap (λ (p : Reached). p.text) e in
            let short : length line ≤ 20 = peek-line (live x.kept.network) t.within.sound (x.progress.ordinal + 1) (omega (arith, few-records)) in
            by-line 20 (omega (arith, ap length printed, length-append x.text line, short)) (omega (arith, past))

    pub next-turn : Turn script y
    next-turn = record {
      sound = stepped.1;
      within = rw stepped.0 (step-within script (far x) t.within not-ended);
      come = stepped.0 ∙ ap (step_of script) t.come ∙ ap (after script) (sym (next-ordinal ∙ add-one x.progress.ordinal));
      short = line-fits (read_at script x.progress.at) refl;
    }

    -- the cursor moves, so that there is less of the script left
    pub next-cursor : length script - y.progress.at < length script - x.progress.at
    next-cursor =
        let moves : x.progress.at < y.progress.at = rw (ap (λ (r : Reached). r.at) stepped.0) (cursor-moves script (far x) t.within not-ended) in
        omega (arith, moves, not-ended)

  -- ---- after the last record
  all-records : length script ≤ x.progress.at → after script (length script) ≡ far x
  all-records past =
      let fewer : x.progress.ordinal ≤ length script = omega (arith, t.within.few, t.within.inside) in
      let there : length script ≤ (after script x.progress.ordinal).at = rw (ap (λ (r : Reached). r.at) (sym t.come)) past in
      ap (after script) (sym (sub-add_cancel fewer)) ∙ ended-after script x.progress.ordinal (length script - x.progress.ordinal) there ∙ sym t.come

  pub whole-printout : Lengths x.kept.network → length script ≤ x.progress.at → x.text ++ last_line x.kept.network.waiting x.progress.posted ≡ closed (after script (length script))
  whole-printout l past =
      ap (λ (waiting : ℕ). x.text ++ last_line waiting x.progress.posted) (sym (messages-length x.kept.network l t.sound)) ∙ ap closed (sym (all-records past))

-- ---- by the size of the script
module _ (script : List ℕ) where
  pub too_long_lem : size_limit < length script → printout_of script ≡ too_long
  unfolding printout_of
  too_long_lem above = rw (lt-ltb size_limit (length script) above)

  pub not-too-long : length script ≤ size_limit → printout_of script ≡ closed (after script (length script))
  unfolding printout_of
  not-too-long within = rw (le-ltb size_limit (length script) within)
