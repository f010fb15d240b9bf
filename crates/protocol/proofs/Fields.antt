-- The fields of a node and of a message as functions, so that an equation of nodes gives one of
-- their fields. Definitions only.
use Prim.Native.Nat.{ℕ}
use Rattle.parts.specs.declared.Status.{Status}
use Rattle.parts.specs.Tests.{Link, Seq}
use Rattle.parts.specs.declared.Kind.{Kind}
use Rattle.parts.specs.declared.Message.{Message}
use Rattle.node.specs.declared.Node.{Node}

abbrev pub status_of : Node → Status
status_of u = u.status

abbrev pub key_of : Node → ℕ
key_of u = u.key

abbrev pub left_of : Node → Link
left_of u = u.left

abbrev pub right_of : Node → Link
right_of u = u.right

abbrev pub lseq_of : Node → ℕ
lseq_of u = u.lseq

abbrev pub rseq_of : Node → Seq
rseq_of u = u.rseq

abbrev pub sender_of : Message → ℕ
sender_of m = m.sender

abbrev pub to_of : Message → ℕ
to_of m = m.to

abbrev pub kind_of : Message → Kind
kind_of m = m.kind
