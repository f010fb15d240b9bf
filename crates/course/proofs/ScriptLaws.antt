-- A run over a script, by the definition: each record moves the cursor past two bytes at least or
-- to the end, so that the ordinal and the messages posted stay small; and at the end nothing
-- changes any more. Assumes nothing.
use mathlib.Core.Path.{◌≡◌, refl, ap, ◌∙◌}
use mathlib.Core.List.{List}
use Prim.Native.Nat.{ℕ, zero, suc, ◌+◌, ◌*◌, ◌≤◌, ◌<◌}
use native.Mathlib.Omega.{arith}
use native.Mathlib.Nat.{zero-add, suc-add}
use lib.ListN.{length}
use lib.Dec.{T}
use Rattle.refusal.specs.Code.{Reason}
use Rattle.protocol.specs.State.{well_formed}
use Rattle.script.specs.declared.Record.{Record}
use Rattle.script.specs.Script.{Read, end, stop, next, read_at}
use Rattle.script.proofs.Laws.{two-at-least, at-end, before-end, after-cursor}
use Rattle.course.proofs.RecordLaws.{record-kept, record-posts}
use Rattle.course.specs.Run.{Progress, advanced, step_of, after}

-- ---- the cursor and the ordinal of a run within a script
pub record Within (script : List ℕ) (p : Progress) : Type 0 where
  pub sound : T (well_formed p.state)
  pub inside : p.at ≤ length script
  -- each record has two bytes at least; the last may be cut short
  pub records : p.at < length script → 2 * p.ordinal ≤ p.at
  pub few : 2 * p.ordinal ≤ p.at + 1
  pub posts : p.posted ≤ 384 * p.ordinal

module _ (script : List ℕ) (p : Progress) (h : Within script p) (not-ended : p.at < length script) where
  stopped-within : (r : Reason) → Within script (advanced script p (stop r))
  stopped-within r = record {
    sound = h.sound;
    inside = omega arith;
    records = λ l. absurd (omega arith);
    few = omega (arith, h.records not-ended);
    posts = omega (arith, h.posts);
  }

  next-within : (e : Record) (c : ℕ) → p.at + 2 ≤ c → c ≤ length script → Within script (advanced script p (next e c))
  next-within e c far inside = record {
    sound = record-kept p.state h.sound e;
    inside = inside;
    records = λ l. omega (arith, h.records not-ended);
    few = omega (arith, h.records not-ended);
    posts = omega (arith, h.posts, record-posts p.state h.sound e);
  }

  pub step-within : Within script (step_of script p)
  step-within = go (read_at script p.at) refl
    where
      go : (r : Read) → read_at script p.at ≡ r → Within script (advanced script p r)
      go end e = h
      go (stop n) e = stopped-within n
      go (next e c) read = let (far, inside) = after-cursor script p.at e c read in next-within e c (omega (arith, far, two-at-least e)) inside

  -- and it is one record further, with the cursor past it
  step-moves : (r : Read) → read_at script p.at ≡ r → ((advanced script p r).ordinal ≡ p.ordinal + 1) × (p.at < (advanced script p r).at)
  step-moves end e = absurd (before-end script p.at not-ended e)
  step-moves (stop n) e = (omega arith, not-ended)
  step-moves (next e c) read = let (far, inside) = after-cursor script p.at e c read in (omega arith, omega (arith, two-at-least e))

  pub one-record : (step_of script p).ordinal ≡ p.ordinal + 1
  one-record = (step-moves (read_at script p.at) refl).0

  pub cursor-moves : p.at < (step_of script p).at
  cursor-moves = (step-moves (read_at script p.at) refl).1

-- ---- at the end nothing changes any more
pub ended : (script : List ℕ) (p : Progress) → length script ≤ p.at → step_of script p ≡ p
ended script p past = rw (at-end script p.at past)

pub ended-after : (script : List ℕ) (k more : ℕ) → length script ≤ (after script k).at → after script (more + k) ≡ after script k
ended-after script k zero past = ap (after script) (zero-add k)
ended-after script k (suc more) past =
    let before = ended-after script k more past in
    ap (after script) (suc-add more k) ∙ ap (step_of script) before ∙ ended script (after script k) past
