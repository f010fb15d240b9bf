-- What a call posts, by its answer and the requests that wait. One that is not refused posts one
-- request; or delivers one, and posts two messages for a grant and one for a denial; or posts
-- nothing. And where each node has just the exchanges that its status allows, and nothing waits,
-- every node is out or in. Assumes nothing.
use mathlib.Core.Path.{◌≡◌, refl}
use mathlib.Core.List.{List, [], ◌∷◌, ◌++◌}
use Prim.Native.Nat.{ℕ, ◌+◌}
use native.Mathlib.Omega.{arith}
use lib.ListN.{length}
use Rattle.predicates.specs.Tests.{bit, count}
use Rattle.predicates.proofs.TestLaws.{count-append}
use Rattle.sequence.specs.Sequence.{Number, next_seq, capped_next}
use Rattle.parts.specs.declared.Status.{Status}
use Rattle.parts.specs.declared.Status.TheVariants.{Out, Ins, In, Del}
use Rattle.parts.specs.declared.Message.{Message}
use Rattle.parts.specs.Tests.{is_request}
use Rattle.node.specs.Actions.{set_r, set_r_ack, set_r_nak, set_l}
use Rattle.protocol.specs.declared.Call.{Call}
use Rattle.protocol.specs.State.{State, node_at, status_at, is_exchange_of, requests, exchanges}
use Rattle.protocol.specs.Calls.{Result}
use Rattle.protocol.specs.Answer.{is_granted, is_denied, says}
use Rattle.protocol.specs.Claim.{posted_for, Settled}
use Rattle.protocol.proofs.Waiting.{Taken}
use Rattle.protocol.proofs.Frames.{settled_in, settled_out}
use Rattle.protocol.proofs.Changes.{Act, drops, lets_in, lets_go, denies, joins, goes, stays_out, stays_in, takes, ignores}
use Rattle.protocol.proofs.Changes.{declares, creates, asks, goes_alone, leaves, delivers, Change, refuses, accepts}

-- ---- the accounts of one call
abbrev pub Accounted : State → Result → Type 0
Accounted s r = length r.posts + requests s.messages ≡ posted_for (bit (says is_granted r.said)) (bit (says is_denied r.said)) r.state.messages

more-requests : (ms posts : List Message) → requests (ms ++ posts) ≡ requests ms + requests posts
more-requests ms posts = count-append (λ m. is_request m.kind) ms posts

-- a message goes
gone : {ms rest : List Message} {m : Message} → Taken ms m rest → requests ms ≡ bit (is_request m.kind) + requests rest
gone t = t.counted (λ m. is_request m.kind)

-- a request goes, and no other comes
replied : {ms rest : List Message} {v p new e : ℕ} {n : Number} → Taken ms (set_r v p new e n) rest → (posts : List Message) → requests posts ≡ 0 → requests ms ≡ 1 + requests (rest ++ posts)
replied {rest = rest} t posts none = omega (arith, gone t, more-requests rest posts)

act-accounted : {s : State} {m : Message} {rest : List Message} {r : Result} → Taken s.messages m rest → Act s m rest r → Accounted s r
act-accounted t (drops p u a n em out er) = rw er (omega (arith, gone (rw em at t)))
act-accounted t (lets_in v p e n k em g room er) = rw er (omega (arith, replied (rw em at t) (set_l p e v (next_seq k) ∷ set_r_ack p v (next_seq k) ∷ []) refl))
act-accounted t (lets_go v p new e n k em d g er) = rw er (omega (arith, replied (rw em at t) (set_l p new p n ∷ set_r_ack p v (capped_next k) ∷ []) refl))
act-accounted t (denies v p new e n em er) = rw er (omega (arith, replied (rw em at t) (set_r_nak p v ∷ []) refl))
act-accounted t (joins p u n em ins er) = rw er (omega (arith, gone (rw em at t)))
act-accounted t (goes p u n em del er) = rw er (omega (arith, gone (rw em at t)))
act-accounted t (stays_out p u em ins er) = rw er (omega (arith, gone (rw em at t)))
act-accounted t (stays_in p u em del er) = rw er (omega (arith, gone (rw em at t)))
act-accounted t (takes p u a n em out new er) = rw er (omega (arith, gone (rw em at t)))
act-accounted t (ignores p u a n em out old er) = rw er (omega (arith, gone (rw em at t)))

pub accounted : {s : State} {call : Call} {r : Result} → Change s call r → Accounted s r
accounted (refuses n er) = rw er refl
accounted (accepts (declares key ec h er)) = rw er refl
accounted (accepts (creates u ec h er)) = rw er refl
accounted {s} (accepts (asks u p q ec h er)) = rw er (omega (arith, more-requests s.messages (set_r u p u q (node_at s u).lseq ∷ [])))
accounted (accepts (goes_alone u ec h er)) = rw er refl
accounted {s} (accepts (leaves u p q n ec h er)) = rw er (omega (arith, more-requests s.messages (set_r u p q u (next_seq n) ∷ [])))
accounted (accepts (delivers place m rest ec h act)) = act-accounted h.taken act

-- ---- where nothing waits, no node is ins or del
settled-status : (t : Status) → 0 ≡ exchanges t → Settled t
settled-status Out e = settled_out
settled-status Ins e = absurd (omega arith)
settled-status In e = settled_in
settled-status Del e = absurd (omega arith)

pub settled : (s : State) → ((u : ℕ) → count (is_exchange_of u) s.messages ≡ exchanges (status_at s u)) → s.messages ≡ [] → (u : ℕ) → Settled (status_at s u)
settled s none_lost quiet u = settled-status (status_at s u) (rw quiet at (none_lost u))
