-- Tests of the parts of a node and of a message: its status, a link, a number that a node may lack,
-- a kind. Each is said once. Definitions only.
use Rattle.std.specs.Prelude.{ℕ, Bool, true, false, ◌||◌, eqb, Option, Some, None}
use Rattle.std.specs.Option.{unwrap_or}
use Rattle.sequence.specs.Sequence.{Number, first_seq, is_seq}
use Rattle.parts.specs.declared.Status.{Status}
use Rattle.parts.specs.declared.Status.TheVariants.{Out, Ins, In, Del}
use Rattle.parts.specs.declared.Kind.{Kind}
use Rattle.parts.specs.declared.Kind.TheVariants.{SetR, SetRAck, SetRNak, SetL}

-- ---- R1.3: a status
abbrev pub is_out : Status → Bool
is_out Out = true
is_out Ins = false
is_out In = false
is_out Del = false

abbrev pub is_in : Status → Bool
is_in Out = false
is_in Ins = false
is_in In = true
is_in Del = false

-- R2.6: of such a node a right number is asked
abbrev pub is_in_or_del : Status → Bool
is_in_or_del Out = false
is_in_or_del Ins = false
is_in_or_del In = true
is_in_or_del Del = true

-- ---- R1.3: a link, which a node may lack; it names a node
abbrev pub Link : Type 0
Link = Option ℕ

abbrev pub linked : Link → Bool
linked None = false
linked (Some n) = true

abbrev pub links_to : Link → ℕ → Bool
links_to None m = false
links_to (Some n) m = eqb n m

-- the node that a link names; it is used only where the link is there
abbrev pub target : Link → ℕ
target l = unwrap_or l 0

-- ---- R1.3: a right number, which a node may lack
abbrev pub Seq : Type 0
Seq = Option Number

abbrev pub numbered : Seq → Bool
numbered None = false
numbered (Some n) = true

-- the number; it is used only where it is there
abbrev pub seq_of : Seq → Number
seq_of q = unwrap_or q first_seq

-- ---- R1.6: a kind of message
-- R1.6: a request is a SetR
abbrev pub is_request : Kind → Bool
is_request (SetR new expected number) = true
is_request (SetRAck number) = false
is_request SetRNak = false
is_request (SetL left number) = false

abbrev pub is_ack : Kind → Bool
is_ack (SetR new expected number) = false
is_ack (SetRAck number) = true
is_ack SetRNak = false
is_ack (SetL left number) = false

abbrev pub is_nak : Kind → Bool
is_nak (SetR new expected number) = false
is_nak (SetRAck number) = false
is_nak SetRNak = true
is_nak (SetL left number) = false

-- R1.6: a notice is a SetL
abbrev pub is_notice : Kind → Bool
is_notice (SetR new expected number) = false
is_notice (SetRAck number) = false
is_notice SetRNak = false
is_notice (SetL left number) = true

-- R1.6: an answer is a SetRAck or a SetRNak
abbrev pub is_answer : Kind → Bool
is_answer kind = is_ack kind || is_nak kind

-- ---- R2.8: of a right number, and of the number that a message carries
abbrev pub seq_fits : Seq → Bool
seq_fits None = true
seq_fits (Some n) = is_seq n

abbrev pub number_fits : Kind → Bool
number_fits (SetR new expected number) = is_seq number
number_fits (SetRAck number) = is_seq number
number_fits SetRNak = true
number_fits (SetL left number) = is_seq number
