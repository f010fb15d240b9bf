-- What a call or a drain is said to come to fixes all that the code hands back: two results that
-- say the same are the same. So a contract that gives this leaves neither the network nor the
-- report open. Assumes nothing.
use mathlib.Core.Path.{◌≡◌, ap}
use Rattle.protocol.proofs.AnswerLaws.{answered_injective}
use Rattle.engine.specs.declared.Called.{Called}
use Rattle.engine.specs.Outcomes.{Counted, called}

pub called_injective : (a b : Called) → called a ≡ called b → a ≡ b
called_injective a b e = λ i. record {
  network = (e i).network;
  report = record {
    answer = answered_injective a.report.answer b.report.answer (ap (λ (x : Counted). x.said) e) i;
    posted = (e i).posted;
  };
}
