-- `members::word` meets its contract, turn by turn. Assumes nothing.
use Prim.Native.Nat.{◌<◌}
use mathlib.Core.Path.{sym, ◌∙◌}
use native.Mathlib.Omega.{arith}
use native.Mathlib.Numerals.{add-one}
use Rattle.members.specs.Members.{member_in}
use Rattle.members.proofs.TurnLaws.{bit-put, bit-left}
use Rattle.members.proofs.word.Goals as goal
use Rattle.members.proofs.word.Goals.{then-is_member, else-is_member}

pub loop-number-preserved : goal.loop-number-preserved
loop-number-preserved c =
    let test = member_in c.args.network.now in
    let small : c.loop-number.number < 32 = omega arith in
    elim c.if-is_member.branch [
      | then-is_member w ↦ rw (add-one, w.word-is) (bit-put test c.loop-number.word c.loop-number.number c.loop-number.invariant (sym c.is_member.ensures ∙ w.if-is_member.true) small)
      | else-is_member w ↦ rw (add-one, w.word-is) (bit-left test c.loop-number.word c.loop-number.number c.loop-number.invariant (sym c.is_member.ensures ∙ w.if-is_member.false))
    ]
