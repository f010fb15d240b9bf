-- What an answer says fixes the answer: two that say the same are the same. So an equation of what
-- is said leaves nothing of an answer open. Assumes nothing.
use mathlib.Core.Path.{◌≡◌, ap}
use Rattle.std.specs.Prelude.{Result, Ok, Err}
use Rattle.refusal.specs.declared.Refusal.{Refusal}
use Rattle.refusal.proofs.Laws.{reason_injective}
use Rattle.protocol.specs.declared.Reply.{Reply}
use Rattle.protocol.specs.Answer.{answered}

pub answered_injective : (a b : Result Reply Refusal) → answered a ≡ answered b → a ≡ b
answered_injective (Ok r) (Ok s) e = cc
answered_injective (Ok r) (Err s) e = cc
answered_injective (Err r) (Ok s) e = cc
answered_injective (Err r) (Err s) e = ap Err (reason_injective r s cc)
