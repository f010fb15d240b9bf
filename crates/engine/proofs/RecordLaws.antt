-- A record on the arrays of a well-formed network: it leaves a well-formed one and posts no more
-- than a few messages; and where it is refused, on whatever network, the very network comes back.
-- Assumes nothing.
use mathlib.Core.Path.{◌≡◌, sym, ap, ◌∙◌}
use mathlib.Core.Logic.{⊎_elim}
use mathlib.Core.Bool.{true, false}
use Prim.Native.Nat.{◌≤◌}
use lib.Dec.{T}
use Rattle.predicates.proofs.TestLaws.{decided, is_true, holds}
use Rattle.refusal.specs.Code.{Reason, plain}
use Rattle.refusal.specs.Rules.{Coded, no}
use Rattle.protocol.specs.declared.Reply.{Reply}
use Rattle.protocol.specs.State.{well_formed}
use Rattle.network.specs.declared.Network.{Network}
use Rattle.network.specs.Arrays.{live, well_formed as arrays_are_well_formed}
use Rattle.network.proofs.Lengths.{Lengths}
use Rattle.network.proofs.ArrayLaws.{held-live, held_well_formed, well-formed as arrays-well-formed}
use Rattle.script.specs.declared.Record.{Record}
use Rattle.course.specs.Execution.{execute_of}
use Rattle.course.proofs.RecordLaws.{record-kept, record-posts, lists-refused-same}
use Rattle.engine.specs.Outcomes.{Counted, counted, refused as arrays_refused, in_arrays}
use Rattle.engine.specs.InArrays.{execute_of as execute_on_arrays}

malformed : (n : Network) (asked : Record) → arrays_are_well_formed n ≡ false → execute_on_arrays n asked ≡ arrays_refused n (plain 6)
unfolding execute_on_arrays
malformed n asked f = rw f

pub refused-same : (n : Network) → Lengths n → (asked : Record) (r : Reason) → (execute_on_arrays n asked).said ≡ no r → execute_on_arrays n asked ≡ arrays_refused n r
unfolding execute_on_arrays
refused-same n l asked r e = ⊎_elim well (λ f. malformed n asked f ∙ ap (arrays_refused n) (six f)) (decided (arrays_are_well_formed n))
  where
    well : arrays_are_well_formed n ≡ true → execute_on_arrays n asked ≡ arrays_refused n r
    well t = let said : (execute_of (live n) asked).said ≡ no r = rw t at e in rw (t, lists-refused-same (live n) asked r said, held-live n l.nodes l.messages t)

    six : arrays_are_well_formed n ≡ false → plain 6 ≡ r
    six f = let given : ◌≡◌ {A = Coded Reply} (no (plain 6)) (no r) = rw (malformed n asked f) at e in cc

-- ---- a record on the arrays of a well-formed network
module _ (n : Network) (sound : arrays_are_well_formed n ≡ true) (asked : Record) (r : Counted) (executed : r ≡ counted (execute_on_arrays n asked)) where
  pub on-lists : r ≡ counted (in_arrays (execute_of (live n) asked))
  unfolding execute_on_arrays
  on-lists = executed ∙ rw sound

  lists-sound : T (well_formed (live n))
  lists-sound = holds (arrays-well-formed n sound).lists

  pub stays-well-formed : arrays_are_well_formed r.network ≡ true
  stays-well-formed = rw on-lists (held_well_formed (execute_of (live n) asked).state (is_true _ (record-kept (live n) lists-sound asked)))

  pub few-posted : r.posted ≤ 384
  few-posted = rw on-lists (record-posts (live n) lists-sound asked)

  -- where it is refused, the network is the very one, and nothing was posted
  pub refused-unchanged : Lengths n → (reason : Reason) → r.said ≡ no reason → (r.network ≡ n) × (r.posted ≡ 0)
  refused-unchanged l reason e =
      let same = executed ∙ ap counted (refused-same n l asked reason (ap (λ (x : Counted). x.said) (sym executed) ∙ e)) in
      (ap (λ (x : Counted). x.network) same, ap (λ (x : Counted). x.posted) same)
