-- What an effect says fixes the whole answer of a step: two answers that say the same are the same.
-- So a contract that gives a step's effect leaves nothing of the answer open. Assumes nothing.
use mathlib.Core.Path.{◌≡◌, refl, ap}
use Rattle.std.specs.Prelude.{Result, Ok, Err}
use Rattle.refusal.specs.declared.Refusal.{Refusal}
use Rattle.refusal.proofs.Laws.{reason_injective}
use Rattle.parts.specs.declared.Posts.{Posts}
use Rattle.parts.specs.declared.Posts.TheVariants.{Nothing, One, Two}
use Rattle.parts.specs.Posts.{posted}
use Rattle.node.specs.declared.Outcome.{Outcome}
use Rattle.node.specs.declared.Step.{Step}
use Rattle.node.specs.Actions.{Effect, coded, effect}

posted_injective : (a b : Posts) → posted a ≡ posted b → a ≡ b
posted_injective Nothing Nothing e = refl
posted_injective Nothing (One m) e = cc
posted_injective Nothing (Two m n) e = cc
posted_injective (One m) Nothing e = cc
posted_injective (One m) (One k) e = cc
posted_injective (One m) (Two k l) e = cc
posted_injective (Two m n) Nothing e = cc
posted_injective (Two m n) (One k) e = cc
posted_injective (Two m n) (Two k l) e = cc

coded_injective : (a b : Result Outcome Refusal) → coded a ≡ coded b → a ≡ b
coded_injective (Ok o) (Ok p) e = cc
coded_injective (Ok o) (Err r) e = cc
coded_injective (Err r) (Ok o) e = cc
coded_injective (Err r) (Err s) e = ap Err (reason_injective r s cc)

pub effect_injective : (s t : Step) → effect s ≡ effect t → s ≡ t
effect_injective s t e = λ i. record {
  node = (e i).node;
  posts = posted_injective s.posts t.posts (ap (λ (x : Effect). x.posts) e) i;
  verdict = coded_injective s.verdict t.verdict (ap (λ (x : Effect). x.said) e) i;
}
