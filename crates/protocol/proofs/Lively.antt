-- Deliveries come to an end, and until then one is always to be had. A delivery that is not refused
-- lowers the load: a request counts three and at most two messages come of it, any other message
-- counts one and none comes of it. And where 64 messages wait some are not requests, since each of
-- at most 32 nodes has at most one waiting; the delivery of such a one is not refused. Assumes
-- nothing.
use mathlib.Core.Path.{◌≡◌, refl, sym, ap}
use mathlib.Core.Logic.{⊎_elim}
use mathlib.Core.Bool.{Bool, true, false, not, ◌&&◌, ◌||◌}
use mathlib.Core.List.Memᴰ.{head as here}
use mathlib.Core.List.Memᴰ.{tail as there}
use mathlib.Core.List.{List, [], ◌∷◌, ◌++◌}
use Prim.Native.Nat.{ℕ, zero, suc, ◌+◌, ◌≤◌, ◌<◌}
use native.Mathlib.Omega.{arith}
use native.Mathlib.Decide.{ℕ_discrete}
use lib.ListN.{length, get_or}
use lib.Dec.{ltb}
use borrow.Author.Tests.{ltb-true, ltb-false, eq-eqb, not-true}
use Rattle.predicates.specs.Tests.{bit, count}
use Rattle.predicates.proofs.Laws.{impossible}
use Rattle.predicates.proofs.TestLaws.{decided, holds, is_true, count-append}
use Rattle.sequence.specs.Sequence.{Number, next_seq, capped_next}
use Rattle.parts.specs.declared.Kind.{Kind}
use Rattle.parts.specs.declared.Kind.TheVariants.{SetR, SetRAck, SetRNak, SetL}
use Rattle.parts.specs.declared.Message.{Message}
use Rattle.node.specs.declared.Node.{Node}
use Rattle.node.specs.Actions.{set_r, set_r_ack, set_r_nak, set_l, would_grant}
use Rattle.node.proofs.FitLaws.{message-facts}
use Rattle.protocol.specs.declared.Call.{Call}
use Rattle.protocol.specs.declared.Call.TheVariants.{Deliver}
use Rattle.protocol.specs.State.{State, queue_limit, node_at, status_at, is_exchange_of, load, well_formed}
use Rattle.parts.specs.Tests.{is_request}
use Rattle.protocol.specs.Calls.{Result, is_full, message_at, is_grantable, apply_of}
use Rattle.protocol.specs.Answer.{accepted}
use Rattle.protocol.specs.Claim.{Delivers, delivered, Lively, SteadyClaim}
use Rattle.protocol.proofs.Waiting.{exchanges-most, Taken}
use Rattle.protocol.proofs.Facts.{WellFormed, well-formed, tested}
use Rattle.protocol.proofs.Changes.{Act, drops, lets_in, lets_go, denies, joins, goes, stays_out, stays_in, takes, ignores}
use Rattle.protocol.proofs.Changes.{Accepted, declares, creates, asks, goes_alone, leaves, delivers, Change, refuses, accepts}
use Rattle.protocol.proofs.Refusals.{act_accepted}
use Rattle.protocol.proofs.Cases.{delivery, change}
use Rattle.protocol.proofs.Moves.{AllFit}
use Rattle.protocol.proofs.Kept.{kept}

-- ---- the load, and how a delivery lowers it
load_append : (l k : List Message) → load (l ++ k) ≡ load l + load k
load_append l k = omega (arith, count-append (λ m. is_request m.kind) l k, count-append (λ m. not (is_request m.kind)) l k)

load-taken : {ms rest : List Message} {m : Message} → Taken ms m rest → load ms ≡ load (m ∷ []) + load rest
load-taken t = omega (arith, t.counted (λ m. is_request m.kind), t.counted (λ m. not (is_request m.kind)))

some-load : (m : Message) → 1 ≤ load (m ∷ [])
some-load m = go m.sender m.to m.kind
  where
    go : (v p : ℕ) (kind : Kind) → 1 ≤ load (record { sender = v; to = p; kind = kind } ∷ [])
    go v p (SetR new expected number) = omega arith
    go v p (SetRAck number) = omega arith
    go v p SetRNak = omega arith
    go v p (SetL left number) = omega arith

-- a message goes and none comes
gone : {ms rest : List Message} {m : Message} → Taken ms m rest → 1 + load rest ≤ load ms
gone {m} t = omega (arith, load-taken t, some-load m)

-- a request goes and these messages come
replied : {ms rest : List Message} {v p new e : ℕ} {n : Number} → Taken ms (set_r v p new e n) rest → (posts : List Message) → load posts ≤ 2 → 1 + load (rest ++ posts) ≤ load ms
replied {rest} t posts few = omega (arith, load-taken t, load_append rest posts)

-- the load falls by one at least, or nothing was accepted and it does not rise
abbrev pub Lowers : State → Result → Type 0
Lowers s r = bit (accepted r.said) + load r.state.messages ≤ load s.messages

act_lowers : {s : State} {m : Message} {rest : List Message} {r : Result} → Taken s.messages m rest → Act s m rest r → Lowers s r
act_lowers t (drops p u a n em out er) = rw er (gone t)
act_lowers t (lets_in v p e n k em g room er) = rw er (replied (rw em at t) (set_l p e v (next_seq k) ∷ set_r_ack p v (next_seq k) ∷ []) (omega arith))
act_lowers t (lets_go v p new e n k em d g er) = rw er (replied (rw em at t) (set_l p new p n ∷ set_r_ack p v (capped_next k) ∷ []) (omega arith))
act_lowers t (denies v p new e n em er) = rw er (replied (rw em at t) (set_r_nak p v ∷ []) (omega arith))
act_lowers t (joins p u n em e er) = rw er (gone t)
act_lowers t (goes p u n em e er) = rw er (gone t)
act_lowers t (stays_out p u em e er) = rw er (gone t)
act_lowers t (stays_in p u em e er) = rw er (gone t)
act_lowers t (takes p u a n em o new er) = rw er (gone t)
act_lowers t (ignores p u a n em o old er) = rw er (gone t)

accepted_lowers : {s : State} {call : Call} {place : ℕ} {r : Result} → call ≡ Deliver place → Accepted s call r → Lowers s r
accepted_lowers e (declares key ec h er) = impossible cc
accepted_lowers e (creates u ec h er) = impossible cc
accepted_lowers e (asks u p q ec h er) = impossible cc
accepted_lowers e (goes_alone u ec h er) = impossible cc
accepted_lowers e (leaves u p q n ec h er) = impossible cc
accepted_lowers e (delivers place m rest ec h act) = act_lowers h.taken act

deliver_lowers : {s : State} {place : ℕ} {r : Result} → Change s (Deliver place) r → Lowers s r
deliver_lowers (refuses n er) = rw er (omega arith)
deliver_lowers (accepts a) = accepted_lowers refl a

-- ---- the sum of f over the numbers below n
abbrev total : (ℕ → ℕ) → ℕ → ℕ
total f zero = 0
total f (suc n) = total f n + f n

total-one : (f : ℕ → ℕ) (n v : ℕ) → v < n → f v ≤ total f n
total-one f zero v h = absurd (omega arith)
total-one f (suc n) v h = go (total-one f n v) (ℕ_discrete v n)
  where
    go : (v < n → f v ≤ total f n) → Dec (v ≡ n) → f v ≤ total f n + f n
    go before (yes e) = rw e (omega arith)
    go before (no d) = omega (arith, before (omega arith))

total-sum : (f g : ℕ → ℕ) (n : ℕ) → total (λ u. f u + g u) n ≡ total f n + total g n
total-sum f g zero = omega arith
total-sum f g (suc n) = omega (arith, total-sum f g n)

total-most : (f : ℕ → ℕ) (n : ℕ) → ((u : ℕ) → u < n → f u ≤ 1) → total f n ≤ n
total-most f zero h = omega arith
total-most f (suc n) h = omega (arith, total-most f n (λ u k. h u (omega arith)), h n (omega arith))

-- ---- each node has at most one request waiting, so there are no more requests than nodes
request-is-exchange : (m : Message) → bit (is_request m.kind) ≤ bit (is_exchange_of m.sender m)
request-is-exchange m = rw (eq-eqb m.sender m.sender refl) (go (is_request m.kind) _)
  where
    go : (b c : Bool) → bit b ≤ bit ((b && true) || c)
    go true c = omega arith
    go false c = omega arith

requests_are_exchanges : (n : ℕ) (ms : List Message) → AllFit n ms → count (λ m. is_request m.kind) ms ≤ total (λ u. count (is_exchange_of u) ms) n
requests_are_exchanges n [] f = omega arith
requests_are_exchanges n (m ∷ ms) f =
    let from = ltb-true m.sender n (message-facts n m (f m (here refl))).sender in
    omega (
      arith,
      request-is-exchange m,
      total-one (λ u. bit (is_exchange_of u m)) n m.sender from,
      total-sum (λ u. bit (is_exchange_of u m)) (λ u. count (is_exchange_of u) ms) n,
      requests_are_exchanges n ms (λ x i. f x (there i)),
    )

few-requests : {s : State} → WellFormed s → count (λ m. is_request m.kind) s.messages ≤ length s.nodes
few-requests {s} w = omega (
  arith,
  requests_are_exchanges (length s.nodes) s.messages w.message,
  total-most (λ u. count (is_exchange_of u) s.messages) (length s.nodes) (λ u k. omega (arith, w.exchange u k, exchanges-most (status_at s u))),
)

-- ---- so of a full queue some message is not a request
pub count-all : {A : Type 0} (test : A → Bool) (l : List A) → count test l + count (λ x. not (test x)) l ≡ length l
count-all test [] = refl
count-all test (x ∷ l) = omega (arith, count-all test l, one (test x))
  where
    one : (b : Bool) → bit b + bit (not b) ≡ 1
    one true = refl
    one false = refl

abbrev Found : {A : Type 0} → (A → Bool) → List A → A → Type 0
Found test l d = (place : ℕ) × (place < length l) × (test (get_or l place d) ≡ true)

found : {A : Type 0} (test : A → Bool) (l : List A) (d : A) → 1 ≤ count test l → Found test l d
found test [] d h = absurd (omega arith)
found test (x ∷ l) d h = go (test x) refl (found test l d)
  where
    go : (b : Bool) → test x ≡ b → (1 ≤ count test l → Found test l d) → Found test (x ∷ l) d
    go true e later = (0, omega arith, e)
    go false e later = let (place, waits, passes) = later (omega (arith, ap bit e)) in (suc place, omega arith, passes)

not-refused : {s : State} {place : ℕ} → WellFormed s → place < length s.messages → (is_full s && is_grantable s place) ≡ false → Delivers s place
not-refused w h room = act_accepted (delivery w h room)

not-grantable : (p : Node) (v : ℕ) (kind : Kind) → is_request kind ≡ false → would_grant p v kind ≡ false
not-grantable p v (SetR new expected number) h = impossible (sym h)
not-grantable p v (SetRAck number) h = refl
not-grantable p v SetRNak h = refl
not-grantable p v (SetL left number) h = refl

pub progress : (s : State) → WellFormed s → 0 < length s.messages → (place : ℕ) × Delivers s place
progress s w h = ⊎_elim with-room full (decided (ltb (length s.messages) queue_limit))
  where
    with-room : ltb (length s.messages) queue_limit ≡ true → (place : ℕ) × Delivers s place
    with-room room = (0, not-refused w h (rw room refl))

    full : ltb (length s.messages) queue_limit ≡ false → (place : ℕ) × Delivers s place
    full e =
        let all = count-all (λ (m : Message). is_request m.kind) s.messages in
        let others : 1 ≤ count (λ m. not (is_request m.kind)) s.messages = omega (arith, all, few-requests w, w.few_nodes, ltb-false (length s.messages) queue_limit e) in
        let (place, waits, other) = found (λ m. not (is_request m.kind)) s.messages (set_r_nak 0 0) others in
        let m = message_at s place in
        (place, not-refused w waits (rw (e, not-grantable (node_at s m.to) m.sender m.kind (not-true _ other))))

-- ---- so every well-formed network is steady
pub lowers : (s : State) (place : ℕ) → Lowers s (apply_of s (Deliver place))
lowers s place = deliver_lowers (change s (Deliver place))

pub bound : (s : State) (places : List ℕ) → delivered s places ≤ load s.messages
bound s [] = omega arith
bound s (place ∷ places) = omega (arith, lowers s place, bound (apply_of s (Deliver place)).state places)

pub lively : (s : State) → WellFormed s → Lively s
lively s w = record { progress = progress s w; bound = bound s }

pub steady : SteadyClaim
steady s t =
    let w = well-formed s (is_true (well_formed s) t) in
    record { kept = λ call. holds (tested _ (kept w (change s call))); lively = lively s w }
