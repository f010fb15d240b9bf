-- What one node does with an order or a message (docs/RULES.md, section 5), in the order of the
-- rules, each with its refusals (R6.4) before it. Every definition fixes the whole node, every
-- message and the outcome. Definitions only.
use Rattle.std.specs.Prelude.{ℕ, Bool, false, not, ◌&&◌, ◌||◌, cond, List, [], ◌∷◌, eqb, Some, Result, Ok, Err}
use Rattle.refusal.specs.declared.Refusal.{Refusal}
use Rattle.refusal.specs.Code.{Reason, reason}
use Rattle.refusal.specs.Rules.{Coded, done, no, Rule, ◌when◌, ruled}
use Rattle.interval.specs.Interval.{between}
use Rattle.parts.specs.declared.Status.{Status}
use Rattle.parts.specs.declared.Status.TheVariants.{Out, Ins, In, Del}
use Rattle.parts.specs.declared.Kind.{Kind}
use Rattle.parts.specs.declared.Kind.TheVariants.{SetR, SetRAck, SetRNak, SetL}
use Rattle.parts.specs.declared.Message.{Message}
use Rattle.node.specs.declared.Node.{Node}
use Rattle.node.specs.declared.Peer.{Peer}
use Rattle.node.specs.declared.Outcome.{Outcome}
use Rattle.node.specs.declared.Outcome.TheVariants.{Created, Waiting, LeftAlone, Granted, Denied, Joined, Gone, JoinDenied, LeaveDenied, LeftSet, LeftOld, Dropped}
use Rattle.node.specs.declared.Step.{Step}
use Rattle.sequence.specs.Sequence.{Number, first_seq, next_seq, newer, has_next, capped_next}
use Rattle.parts.specs.Tests.{Link, Seq, is_out, is_in, links_to, target, seq_of}
use Rattle.parts.specs.Posts.{posted}
use Rattle.node.specs.Shape.{well_formed, deliverable, peer_fits}

-- ---- what a step says
-- R1.9: the node left behind, the messages posted in their order, and the outcome or the reason of
-- a refusal
pub record Effect : Type 0 where
  pub node : Node
  pub posts : List Message
  pub said : Coded Outcome

-- R11.3: what the code's verdict says
abbrev pub coded : Result Outcome Refusal → Coded Outcome
coded (Ok o) = done o
coded (Err r) = no (reason r)

-- R1.9, R11.3: what the code's answer says
abbrev pub effect : Step → Effect
effect s = record { node = s.node; posts = posted s.posts; said = coded s.verdict }

-- R6.2: a refusal says its reason; the node is as it was, and nothing is posted
abbrev pub refused : Node → Reason → Effect
refused u r = record { node = u; posts = []; said = no r }

-- R1.9: a node that stays, or moves on, with no message
abbrev pub quiet : Node → Outcome → Effect
quiet u o = record { node = u; posts = []; said = done o }

-- R1.9: a node that posts one message
abbrev pub posting : Node → Message → Outcome → Effect
posting u m o = record { node = u; posts = m ∷ []; said = done o }

-- ---- R1.6: messages, by their sender, their addressee and the kind's own fields
abbrev pub set_r : ℕ → ℕ → ℕ → ℕ → Number → Message
set_r sender to new expected number = record { sender = sender; to = to; kind = SetR new expected number }

abbrev pub set_r_ack : ℕ → ℕ → Number → Message
set_r_ack sender to number = record { sender = sender; to = to; kind = SetRAck number }

abbrev pub set_r_nak : ℕ → ℕ → Message
set_r_nak sender to = record { sender = sender; to = to; kind = SetRNak }

abbrev pub set_l : ℕ → ℕ → ℕ → Number → Message
set_l sender to left number = record { sender = sender; to = to; kind = SetL left number }

-- ---- R1.5: a node changed, by one setter for its status and one for each link with its number,
-- which leave all other fields as they were
abbrev pub with_status : Status → Node → Node
with_status s u = record { status = s; key = u.key; left = u.left; right = u.right; lseq = u.lseq; rseq = u.rseq }

abbrev pub with_left : Link → Number → Node → Node
with_left l n u = record { status = u.status; key = u.key; left = l; right = u.right; lseq = n; rseq = u.rseq }

abbrev pub with_right : Link → Seq → Node → Node
with_right l n u = record { status = u.status; key = u.key; left = u.left; right = l; lseq = u.lseq; rseq = n }

-- ---- refusals 23 and 24, named so that a network's list can put 25 between them
-- refusal 23: the node is not out
abbrev pub not_out : Node → Rule
not_out u = 23 when not (is_out u.status)

-- refusal 24: its key is not between those of left and right
abbrev pub not_between : Node → Peer → Peer → Rule
not_between u p q = 24 when not (between p.key q.key u.key)

-- ---- create
-- R6.4: 6, and 23
abbrev pub create_rules : ℕ → Node → List Rule
create_rules me u = (6 when not (well_formed me u)) ∷ not_out u ∷ []

-- R5.1: linked to itself, both numbers the first, in
abbrev pub created : ℕ → Node → Node
created me u = with_status In (with_right (Some me) (Some first_seq) (with_left (Some me) first_seq u))

-- R5.1: with no message
abbrev pub creating : ℕ → Node → Effect
creating me u = quiet (created me u) Created

-- R6.1: its rules, and then what it does
unfoldable pub create_of : ℕ → Node → Effect
create_of me u = ruled (create_rules me u) (refused u) (creating me u)

-- ---- join
-- R6.4: 23, 24
abbrev pub join_own_rules : Node → Peer → Peer → List Rule
join_own_rules u p q = not_out u ∷ not_between u p q ∷ []

-- R6.4: 6 comes before them
abbrev pub join_rules : ℕ → Node → Peer → Peer → List Rule
join_rules me u p q = (6 when not (well_formed me u && (peer_fits p && peer_fits q))) ∷ join_own_rules u p q

-- R5.2: between p and q, ins
abbrev pub joining : Node → Peer → Peer → Node
joining u p q = with_status Ins (with_right (Some q.number) u.rseq (with_left (Some p.number) u.lseq u))

-- R5.2: p is asked to take u for q, with the left number that u has
abbrev pub join_request : ℕ → Node → Peer → Peer → Message
join_request me u p q = set_r me p.number me q.number u.lseq

-- R5.2: the joiner waits
abbrev pub asking : ℕ → Node → Peer → Peer → Effect
asking me u p q = posting (joining u p q) (join_request me u p q) Waiting

-- R6.1: past the test of node and neighbours
unfoldable pub join_unchecked : ℕ → Node → Peer → Peer → Effect
join_unchecked me u p q = ruled (join_own_rules u p q) (refused u) (asking me u p q)

-- R6.1: with that test
unfoldable pub join_of : ℕ → Node → Peer → Peer → Effect
join_of me u p q = ruled (join_rules me u p q) (refused u) (asking me u p q)

-- ---- leave
-- R5.3: a node is alone if its right link names itself
abbrev pub alone : ℕ → Node → Bool
alone me u = links_to u.right me

-- R6.4: 26 of a node that is not in, 27 of one whose right number is the last, unless it is alone
abbrev pub leave_own_rules : ℕ → Node → List Rule
leave_own_rules me u = (26 when not (is_in u.status)) ∷ (27 when not (alone me u) && not (has_next (seq_of u.rseq))) ∷ []

-- R6.4: 6 comes before them
abbrev pub leave_rules : ℕ → Node → List Rule
leave_rules me u = (6 when not (well_formed me u)) ∷ leave_own_rules me u

-- R5.4: its left link is asked to take its right link for it
abbrev pub leave_request : ℕ → Node → Number → Message
leave_request me u next = set_r me (target u.left) (target u.right) me next

-- R5.3: alone it goes out with no message; R5.4: else it is del, and asks
abbrev pub leaving : ℕ → Node → Effect
leaving me u =
    cond (alone me u)
    (quiet (with_status Out u) LeftAlone)
    (posting (with_status Del u) (leave_request me u (next_seq (seq_of u.rseq))) Waiting)

-- R6.1: past the test of the node
unfoldable pub leave_unchecked : ℕ → Node → Effect
leave_unchecked me u = ruled (leave_own_rules me u) (refused u) (leaving me u)

-- R6.1: with that test
unfoldable pub leave_of : ℕ → Node → Effect
leave_of me u = ruled (leave_rules me u) (refused u) (leaving me u)

-- ---- SetR from v at p
-- R5.5: granted if p is in and its right link the one expected, and of a join if its right number
-- has a next
unfoldable pub grants : Node → ℕ → ℕ → ℕ → Bool
grants p v new expected = is_in p.status && (links_to p.right expected && (not (eqb new v) || has_next (seq_of p.rseq)))

-- R6.10: whether a message is a SetR that would be granted
abbrev pub would_grant : Node → ℕ → Kind → Bool
would_grant p v (SetR new expected number) = grants p v new expected
would_grant p v (SetRAck number) = false
would_grant p v SetRNak = false
would_grant p v (SetL left number) = false

-- R5.6: of a join the old right link is told of v, with the next number; of a leave new is told of
-- p, with the request's number
abbrev pub notice : ℕ → Node → ℕ → ℕ → Number → Message
notice me p v new number =
    cond (eqb new v)
    (set_l me (target p.right) v (next_seq (seq_of p.rseq)))
    (set_l me new me number)

-- R5.7: the number after the right number that p has until then, capped
abbrev pub ack : ℕ → Node → ℕ → Message
ack me p v = set_r_ack me v (capped_next (seq_of p.rseq))

-- R5.8: the right link is new, and the right number the request's
abbrev pub relinked : Node → ℕ → Number → Node
relinked p new number = with_right (Some new) (Some number) p

-- R5.6, R5.7, R5.8: the notice is posted first, and then the answer
abbrev pub granting : Node → Message → Message → Effect
granting p notice answer = record { node = p; posts = notice ∷ answer ∷ []; said = done Granted }

-- R5.9, R5.13: p is as it was, and v hears SetRNak
abbrev pub denied : ℕ → Node → ℕ → Effect
denied me p v = posting p (set_r_nak me v) Denied

-- R5.5, R5.6, R5.7, R5.8, R5.9
abbrev pub on_set_r : ℕ → Node → ℕ → ℕ → ℕ → Number → Effect
on_set_r me p v new expected number =
    cond (grants p v new expected)
    (granting (relinked p new number) (notice me p v new number) (ack me p v))
    (denied me p v)

-- ---- SetRAck
-- R5.10: a joiner is in, with the number of the answer
abbrev pub confirmed : Node → Number → Node
confirmed u number = with_status In (with_right u.right (Some number) u)

-- R5.10: a joiner has joined, a leaver is gone; R5.13, R5.14: the others drop it
abbrev pub on_set_r_ack : Status → Node → Number → Effect
on_set_r_ack Out u number = quiet u Dropped
on_set_r_ack Ins u number = quiet (confirmed u number) Joined
on_set_r_ack In u number = quiet u Dropped
on_set_r_ack Del u number = quiet (with_status Out u) Gone

-- ---- SetRNak
-- R5.11: a joiner is out again, a leaver is in again; R5.13, R5.14: the others drop it
abbrev pub on_set_r_nak : Status → Node → Effect
on_set_r_nak Out u = quiet u Dropped
on_set_r_nak Ins u = quiet (with_status Out u) JoinDenied
on_set_r_nak In u = quiet u Dropped
on_set_r_nak Del u = quiet (with_status In u) LeaveDenied

-- ---- SetL
-- R5.12: left link and left number are set
abbrev pub left_set : Node → ℕ → Number → Node
left_set u left number = with_left (Some left) number u

-- R5.12: if its number is newer than the left number, and else it changes nothing
abbrev pub on_set_l : Node → ℕ → Number → Effect
on_set_l u left number = cond (newer number u.lseq) (quiet (left_set u left number) LeftSet) (quiet u LeftOld)

-- ---- receiving a message
-- R5.5, R5.9, R5.10, R5.11, R5.12, R5.14: what a node that is not out does with each kind
abbrev pub on_kind : ℕ → Node → ℕ → Kind → Effect
on_kind me u v (SetR new expected number) = on_set_r me u v new expected number
on_kind me u v (SetRAck number) = on_set_r_ack u.status u number
on_kind me u v SetRNak = on_set_r_nak u.status u
on_kind me u v (SetL left number) = on_set_l u left number

-- R5.13: what a node that is out does with each kind
abbrev pub while_out : ℕ → Node → ℕ → Kind → Effect
while_out me u v (SetR new expected number) = denied me u v
while_out me u v (SetRAck number) = quiet u Dropped
while_out me u v SetRNak = quiet u Dropped
while_out me u v (SetL left number) = quiet u Dropped

-- R5.13: that comes first, and else what the kind says
abbrev pub act_of : ℕ → Node → ℕ → Kind → Effect
act_of me u v kind = cond (is_out u.status) (while_out me u v kind) (on_kind me u v kind)

-- R6.4: a message is refused 6, and by nothing else
abbrev pub receive_rules : ℕ → Node → Message → List Rule
receive_rules me u m = (6 when not (well_formed me u && deliverable me m)) ∷ []

-- R6.1: its rule, and then what the node does
unfoldable pub receive_of : ℕ → Node → Message → Effect
receive_of me u m = ruled (receive_rules me u m) (refused u) (act_of me u m.sender m.kind)
