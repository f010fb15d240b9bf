-- What waits: a message taken from the others, the members of a queue with posts, and a node's
-- exchanges. A node has at most one exchange, so whoever sees one knows that there is no other.
-- Assumes nothing.
use mathlib.Core.Path.{◌≡◌, refl, sym, ap, subst, ◌∙◌}
use mathlib.Core.Logic.{◌⊎◌, inl, inr, ⊎_elim, ◌≢◌}
use mathlib.Core.Bool.{Bool, true, false}
use mathlib.Core.List.Memᴰ.{append_cases as in-part}
use mathlib.Core.List.Memᴰ.{cases_cons as in-cons}
use mathlib.Core.List.Memᴰ.{head as here}
use mathlib.Core.List.Memᴰ.{not-nil as in-nil}
use mathlib.Core.List.Memᴰ.{tail as there}
use mathlib.Core.List.{List, [], ◌∷◌, ◌++◌}
use mathlib.Core.List.Memᴰ.{append_left as in_left}
use mathlib.Core.List.Memᴰ.{append_right as in_right}
use Prim.Native.Nat.{ℕ, suc, ◌+◌, ◌≤◌, ◌<◌}
use native.Mathlib.Omega.{arith}
use lib.ListN.{length, take, drop, length-append}
use lib.Seq.{split_at}
use borrow.Author.Tests.{eq-eqb}
use Rattle.sequence.specs.Sequence.{Number}
use Rattle.predicates.specs.Tests.{bit, count, any}
use Rattle.predicates.proofs.TestLaws.{◌∈◌, decided, not-both, any-in, some_in, not-any, count-append, none-counted, bit-true}
use Rattle.parts.specs.declared.Status.{Status}
use Rattle.parts.specs.declared.Status.TheVariants.{Out, Ins, In, Del}
use Rattle.parts.specs.declared.Kind.{Kind}
use Rattle.parts.specs.declared.Kind.TheVariants.{SetR, SetRAck, SetRNak, SetL}
use Rattle.parts.specs.declared.Message.{Message}
use Rattle.node.specs.declared.Node.{Node}
use Rattle.node.specs.Actions.{set_r, set_r_ack, set_r_nak}
use Rattle.protocol.specs.State.{State, is_ack_to, is_exchange_of, exchanges}
use Rattle.protocol.specs.Calls.{message_at, without}

-- ---- a message taken out, and the rest
pub record Taken (ms : List Message) (m : Message) (rest : List Message) : Type 0 where
  pub waits : m ∈ ms
  pub left : (x : Message) → x ∈ rest → x ∈ ms
  pub either : (x : Message) → x ∈ ms → (x ≡ m) ⊎ (x ∈ rest)
  pub counted : (test : Message → Bool) → count test ms ≡ bit (test m) + count test rest
  pub shorter : length ms ≡ suc (length rest)

cut_out : (pre post : List Message) (m : Message) → Taken (pre ++ m ∷ post) m (pre ++ post)
cut_out pre post m = record {
  waits = in_right pre (here refl);
  left = λ x i. ⊎_elim (λ j. in_left (m ∷ post) j) (λ j. in_right pre (there j)) (in-part pre i);
  either = λ x i. ⊎_elim (λ j. inr (in_left post j)) (λ j. ⊎_elim (λ e. inl e) (λ k. inr (in_right pre k)) (in-cons j)) (in-part pre i);
  counted = λ test. omega (arith, count-append test pre (m ∷ post), count-append test pre post);
  shorter = omega (arith, length-append pre (m ∷ post), length-append pre post);
}

-- any message that waits can be taken
pub taken_out : {m : Message} {ms : List Message} → m ∈ ms → (rest : List Message) × Taken ms m rest
taken_out (here {x = x} {xs = xs} e) = (xs, rw e (cut_out [] xs x))
taken_out (there {x = x} {xs = xs} i) = let (rest, t) = taken_out i in (x ∷ rest, behind x t)
  where
    behind : {ms rest : List Message} {m : Message} (x : Message) → Taken ms m rest → Taken (x ∷ ms) m (x ∷ rest)
    behind x t = record {
      waits = there t.waits;
      left = λ y i. ⊎_elim (λ e. here e) (λ j. there (t.left y j)) (in-cons i);
      either = λ y i. ⊎_elim (λ e. inr (here e)) (λ j. ⊎_elim (λ e. inl e) (λ k. inr (there k)) (t.either y j)) (in-cons i);
      counted = λ test. omega (arith, t.counted test);
      shorter = omega (arith, t.shorter);
    }

pub taken : (s : State) (place : ℕ) → place < length s.messages → Taken s.messages (message_at s place) (without place s.messages)
taken s place h =
    subst (λ (ms : List Message). Taken ms (message_at s place) (without place s.messages)) (sym (split_at s.messages place (set_r_nak 0 0) h))
    (cut_out (take place s.messages) (drop (suc place) s.messages) (message_at s place))

-- ---- messages
-- two messages that a test tells apart
pub apart : {x y : Message} (test : Message → Bool) → test x ≡ true → test y ≡ false → x ≢ y
apart test t f e = not-both t (ap test e ∙ f)

pub in_one : {x a : Message} (l : List Message) → x ∈ (l ++ a ∷ []) → (x ∈ l) ⊎ (x ≡ a)
in_one l i = ⊎_elim (λ j. inl j) (λ j. ⊎_elim (λ e. inr e) (λ k. absurd (in-nil k)) (in-cons j)) (in-part l i)

pub in_two : {x a b : Message} (l : List Message) → x ∈ (l ++ a ∷ b ∷ []) → (x ∈ l) ⊎ ((x ≡ a) ⊎ (x ≡ b))
in_two l i = ⊎_elim (λ j. inl j) (λ j. ⊎_elim (λ e. inr (inl e)) (λ k. ⊎_elim (λ e. inr (inr e)) (λ z. absurd (in-nil z)) (in-cons k)) (in-cons j)) (in-part l i)

-- a test that the same members of two lists pass
pub same-any : (test : Message → Bool) (l m : List Message) → ((x : Message) → test x ≡ true → x ∈ l → x ∈ m) → ((x : Message) → test x ≡ true → x ∈ m → x ∈ l) → any test l ≡ any test m
same-any test l m to from = ⊎_elim (λ t. t ∙ sym (over t)) (λ f. f ∙ sym (not-any test m (λ x i. ⊎_elim (λ t. absurd (not-both (any-in test (from x t i) t) f)) (λ n. n) (decided (test x))))) (decided (any test l))
  where
    over : any test l ≡ true → any test m ≡ true
    over t = let (x, i, e) = some_in test l t in any-in test (to x e i) e

-- ---- exchanges
-- no node has more exchanges than its status allows
pub record Limited (N : ℕ → Node) (M : List Message) : Type 0 where
  pub most : (u : ℕ) → count (is_exchange_of u) M ≤ exchanges (N u).status

pub exchanges-most : (s : Status) → exchanges s ≤ 1
exchanges-most Out = omega arith
exchanges-most Ins = omega arith
exchanges-most In = omega arith
exchanges-most Del = omega arith

pub request-exchange : (u p new e n : ℕ) → is_exchange_of u (set_r u p new e n) ≡ true
request-exchange u p new e n = rw (eq-eqb u u refl)

pub ack-exchange : (w u : ℕ) (n : Number) → is_exchange_of u (set_r_ack w u n) ≡ true
ack-exchange w u n = eq-eqb u u refl

pub nak_exchange : (w u : ℕ) → is_exchange_of u (set_r_nak w u) ≡ true
nak_exchange w u = eq-eqb u u refl

pub not-ack : (u : ℕ) (m : Message) → is_exchange_of u m ≡ false → is_ack_to u m ≡ false
not-ack u m = go m.kind m.sender m.to
  where
    go : (k : Kind) (v w : ℕ) → is_exchange_of u (record { sender = v; to = w; kind = k }) ≡ false → is_ack_to u (record { sender = v; to = w; kind = k }) ≡ false
    go (SetR new expected number) v w h = refl
    go (SetRAck number) v w h = h
    go SetRNak v w h = refl
    go (SetL left number) v w h = refl

pub ack-is-exchange : (u : ℕ) (m : Message) → is_ack_to u m ≡ true → is_exchange_of u m ≡ true
ack-is-exchange u m a = ⊎_elim (λ t. t) (λ f. absurd (not-both a (not-ack u m f))) (decided (is_exchange_of u m))

module _ {N : ℕ → Node} {M : List Message} (limited : Limited N M) where
  -- a node that is out or in has none
  pub no-exchange : (u : ℕ) {x : Message} → exchanges (N u).status ≡ 0 → x ∈ M → is_exchange_of u x ≡ false
  no-exchange u e i = none-counted (is_exchange_of u) (omega (arith, limited.most u)) i

  -- one that has one has no other
  pub only-exchange : (u : ℕ) {m x : Message} {rest : List Message} → Taken M m rest → is_exchange_of u m ≡ true → x ∈ rest → is_exchange_of u x ≡ false
  only-exchange u t d i = none-counted (is_exchange_of u) (omega (arith, limited.most u, exchanges-most (N u).status, t.counted (is_exchange_of u), bit-true d)) i

  -- one that has one is ins or del
  pub waits-for : (u : ℕ) {m : Message} → m ∈ M → is_exchange_of u m ≡ true → ((N u).status ≡ Ins) ⊎ ((N u).status ≡ Del)
  waits-for u {m} i d = go (N u).status refl
    where
      go : (s : Status) → (N u).status ≡ s → ((N u).status ≡ Ins) ⊎ ((N u).status ≡ Del)
      go Out e = absurd (not-both d (no-exchange u (ap exchanges e) i))
      go Ins e = inl e
      go In e = absurd (not-both d (no-exchange u (ap exchanges e) i))
      go Del e = inr e

  -- a node whose one exchange is no SetRAck has no SetRAck waiting
  pub no-ack : (u : ℕ) {m : Message} {rest : List Message} → Taken M m rest → is_exchange_of u m ≡ true → is_ack_to u m ≡ false → any (is_ack_to u) M ≡ false
  no-ack u {m} t d f = not-any (is_ack_to u) M (λ x i. ⊎_elim (λ (e : x ≡ m). rw e f) (λ j. not-ack u x (only-exchange u t d j)) (t.either x i))

-- ---- acknowledgements that wait, where a message is taken that is none of u's
pub acks-left : (u : ℕ) {M rest : List Message} {m : Message} → Taken M m rest → is_ack_to u m ≡ false → any (is_ack_to u) rest ≡ any (is_ack_to u) M
acks-left u {M} {rest} {m} t f = same-any (is_ack_to u) rest M (λ x _ i. t.left x i) (λ x a i. ⊎_elim (λ (e : x ≡ m). absurd (not-both (rw e at a) f)) (λ j. j) (t.either x i))
