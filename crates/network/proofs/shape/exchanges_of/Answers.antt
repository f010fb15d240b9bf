-- `network::shape::exchanges_of` meets its contract, turn by turn. Assumes nothing.
use mathlib.Core.Path.{refl, sym, ◌∙◌}
use Prim.Native.Nat.{ℕ, ◌<◌}
use native.Mathlib.Omega.{arith}
use lib.ListN.{length-set}
use Rattle.std.proofs.lemmas.List.{get_or-replicate}
use Rattle.network.proofs.Exchanges.{not-links, none-told, one-told}
use Rattle.network.proofs.shape.exchanges_of.Goals as goal
use Rattle.network.proofs.shape.exchanges_of.Goals.{in-Some+then-number-lt-CAPACITY, in-Some+else-number-lt-CAPACITY, in_default}

pub loop-message-init : goal.loop-message-init
loop-message-init c = (refl, λ u k. let none = get_or-replicate {A = ℕ} 32 u 0 0 k in (none, omega (arith, none)))

pub loop-message-preserved : goal.loop-message-preserved
loop-message-preserved c =
    let run = c.loop-message in
    let messages = c.args.messages.now in
    elim c.match-party.branch [
      | in-Some+then-number-lt-CAPACITY w ↦
          let is = sym c.party.ensures ∙ w.in-Some.is in
          let told = one-told messages run.exchanges run.message-index c.loop-message-test.true run.invariant.1 w.in-Some.number is (omega arith) in
          rw w.exchanges-is (simp length-set run.invariant.0, told)
      | in-Some+else-number-lt-CAPACITY w ↦
          let is = sym c.party.ensures ∙ w.in-Some.is in
          let other = λ (u : ℕ) (k : u < 32). not-links w.in-Some.number u (λ e. omega (arith, e)) in
          rw w.exchanges-is (run.invariant.0, none-told messages run.exchanges run.message-index c.loop-message-test.true run.invariant.1 _ is (λ u k. other u (rw run.invariant.0 at k)))
      | in_default w ↦
          let is = sym c.party.ensures ∙ w.in_default.is in
          rw w.exchanges-is (run.invariant.0, none-told messages run.exchanges run.message-index c.loop-message-test.true run.invariant.1 _ is (λ u k. refl))
    ]
