-- R11.4: the cases that paper 01 marks †, in its order, one row each: what the definition gives,
-- and what it must be. `proofs/Claim.antt` proves the whole table. Definitions only.
use Rattle.std.specs.Prelude.{◌≡◌, true, false, List, [], ◌∷◌, ℕ, Some}
use Rattle.refusal.specs.Code.{plain}
use Rattle.refusal.specs.Rules.{done, no}
use Rattle.serial.specs.Serial.{coded, packed_of, binary_of}
use Rattle.interval.specs.Interval.{between}
use Rattle.sequence.specs.Sequence.{Number, next_seq}
use Rattle.parts.specs.declared.Status.TheVariants.{Out, In}
use Rattle.node.specs.declared.Node.{Node}
use Rattle.node.specs.declared.Outcome.TheVariants.{LeftAlone, LeftSet, LeftOld, Denied}
use Rattle.node.specs.Shape.{declared_of}
use Rattle.node.specs.Actions.{set_r, set_r_ack, set_r_nak, set_l, quiet, posting, granting, leave_of, receive_of}

-- a row: two things that are equal; or a row for every sequence number
pub data Case : Type 1 where
  ◌is◌ : {A : Type 0} → A → A → Case
  every : (Number → Case) → Case

infix 10 ◌is◌
abbrev pub Holds : Case → Type 0
Holds (x is y) = x ≡ y
Holds (every row) = (i : Number) → Holds (row i)

abbrev pub AllHold : List Case → Type 0
AllHold [] = Unit {0}
AllHold (c ∷ cs) = Holds c × AllHold cs

-- node 0 of the cases below: in, with the links, the left number and the right number given
abbrev pub node0 : ℕ → ℕ → Number → Number → Node
node0 left right lseq rseq = record { status = In; key = 1_000; left = Some left; right = Some right; lseq = lseq; rseq = Some rseq }

-- the same, gone out
abbrev pub out0 : ℕ → ℕ → Number → Number → Node
out0 left right lseq rseq = record { status = Out; key = 1_000; left = Some left; right = Some right; lseq = lseq; rseq = Some rseq }

abbrev pub table : List Case
table =
    -- R9.4: packed 00 00 12 34, and binary 34 12 00 00
    (coded (packed_of (0x00 ∷ 0x00 ∷ 0x12 ∷ 0x34 ∷ [])) is done 1_234)
    ∷ (coded (binary_of (0x34 ∷ 0x12 ∷ 0x00 ∷ 0x00 ∷ [])) is done 4_660)
    -- R1.1, refusal 3: the greatest packed serial, and one with a digit above 9
    ∷ (coded (packed_of (0x99 ∷ 0x99 ∷ 0x99 ∷ 0x99 ∷ [])) is done 99_999_999)
    ∷ (coded (packed_of (0x00 ∷ 0x00 ∷ 0x00 ∷ 0x0a ∷ [])) is no (plain 3))
    -- R1.1, refusal 4: the greatest binary serial, and one more
    ∷ (coded (binary_of (0xff ∷ 0xe0 ∷ 0xf5 ∷ 0x05 ∷ [])) is done 99_999_999)
    ∷ (coded (binary_of (0x00 ∷ 0xe1 ∷ 0xf5 ∷ 0x05 ∷ [])) is no (plain 4))
    -- R3.1: an interval round the end of the circle, and one whose ends are one key
    ∷ (between 9 7 5 is true)
    ∷ (between 9 7 8 is false)
    ∷ (between 9 9 8 is true)
    ∷ (between 9 9 9 is false)
    -- R5.12: at left number 2 a notice with 2 is old, and one with 3 is taken
    ∷ (receive_of 0 (node0 1 2 2 0) (set_l 3 0 3 2) is quiet (node0 1 2 2 0) LeftOld)
    ∷ (receive_of 0 (node0 1 2 2 0) (set_l 3 0 3 3) is quiet (node0 3 2 3 0) LeftSet)
    -- R5.12: of two notices the one with the greater number stays, though it comes first (004, Fig.
    -- 3)
    ∷ every (λ i. receive_of 0 (receive_of 0 (node0 1 2 i 0) (set_l 4 0 4 (next_seq (next_seq i)))).node (set_l 3 0 3 (next_seq i)) is quiet (node0 4 2 (next_seq (next_seq i)) 0) LeftOld)
    -- R5.5, R5.6: at right number 65,534 a join is granted, and its notice has 65,535
    ∷ (receive_of 0 (node0 1 2 0 65_534) (set_r 3 0 3 2 7) is granting (node0 1 3 0 7) (set_l 0 2 3 65_535) (set_r_ack 0 3 65_535))
    -- R5.5, R5.7: at 65,535 a join is denied; a leave is granted, and its answer has 65,535, capped
    ∷ (receive_of 0 (node0 1 2 0 65_535) (set_r 3 0 3 2 7) is posting (node0 1 2 0 65_535) (set_r_nak 0 3) Denied)
    ∷ (receive_of 0 (node0 1 2 0 65_535) (set_r 2 0 4 2 7) is granting (node0 1 4 0 7) (set_l 0 4 0 7) (set_r_ack 0 2 65_535))
    -- R5.3: a lone node leaves with no message
    ∷ (leave_of 0 (node0 0 0 5 65_535) is quiet (out0 0 0 5 65_535) LeftAlone)
    -- R5.13: a node that is out denies a SetR (02 (ii), which changes this case of 01)
    ∷ (receive_of 0 (out0 1 2 0 0) (set_r 3 0 3 2 7) is posting (out0 1 2 0 0) (set_r_nak 0 3) Denied)
    ∷ (receive_of 0 (declared_of 1_000) (set_r 3 0 3 2 7) is posting (declared_of 1_000) (set_r_nak 0 3) Denied)
    ∷ []
