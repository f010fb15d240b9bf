-- The exchanges of every node counted in one walk over the messages, each told to the node whose it
-- is. Assumes nothing.
use Rattle.std.specs.Prelude.{Some}
use mathlib.Core.Path.{◌≡◌, refl, sym, ap, ◌∙◌}
use mathlib.Core.Logic.{◌≢◌}
use mathlib.Core.Bool.{◌&&◌, ◌||◌, or-false, false}
use mathlib.Core.List.{List}
use Prim.Native.Nat.{ℕ, ◌+◌, ◌≤◌, ◌<◌}
use native.Mathlib.Numerals.{add-one}
use native.Mathlib.Decide.{ℕ_discrete}
use native.Mathlib.Omega.{arith}
use lib.ListN.{length, get_or, set, take, length-set}
use lib.Seq.{get_or-set_same, get_or-set_other}
use lib.Dec.{eqb}
use borrow.Author.Tests.{eq-eqb, ne_eqb}
use Rattle.predicates.specs.Tests.{bit, count}
use Rattle.predicates.proofs.TestLaws.{count-take, bit-true, bit-false}
use Rattle.parts.specs.declared.Kind.{Kind}
use Rattle.parts.specs.declared.Kind.TheVariants.{SetR, SetRAck, SetRNak, SetL}
use Rattle.parts.specs.declared.Message.{Message}
use Rattle.parts.specs.Tests.{Link, links_to, is_request, is_answer}
use Rattle.protocol.specs.State.{is_exchange_of}
use Rattle.network.specs.Walks.{party_by}

-- whose exchange a message is, by its kind
module _ (m : Message) where
  exchange-by : (kind : Kind) (u : ℕ) → ((is_request kind && eqb m.sender u) || (is_answer kind && eqb m.to u)) ≡ links_to (party_by kind m) u
  exchange-by (SetR new expected number) u = or-false (eqb m.sender u)
  exchange-by (SetRAck number) u = refl
  exchange-by SetRNak u = refl
  exchange-by (SetL left number) u = refl

  exchange-of : (u : ℕ) → is_exchange_of u m ≡ links_to (party_by m.kind m) u
  exchange-of = exchange-by m.kind

-- a link names no other node
pub not-links : (v u : ℕ) → v ≢ u → links_to (Some v) u ≡ false
not-links v u n = ne_eqb v u n

-- what is counted of the first i messages: each node's exchanges, no more than there are messages
abbrev pub Counted : List Message → ℕ → List ℕ → Type 0
Counted messages i exchanges = (u : ℕ) → u < length exchanges → (get_or exchanges u 0 ≡ count (is_exchange_of u) (take i messages)) × (get_or exchanges u 0 ≤ i)

-- what a walk reads of messages past their end: zeros and the first kind
abbrev pub zero_message : Message
zero_message = record { sender = 0; to = 0; kind = SetR 0 0 0 }

-- one message more
module _ (messages : List Message) (exchanges : List ℕ) (i : ℕ) (k : i < length messages) (counted : Counted messages i exchanges) where
  one_more : (whose : Link) → party_by (get_or messages i zero_message).kind (get_or messages i zero_message) ≡ whose → (u : ℕ)
      → count (is_exchange_of u) (take (i + 1) messages) ≡ count (is_exchange_of u) (take i messages) + bit (links_to whose u)
  one_more whose e u =
      let its = exchange-of (get_or messages i zero_message) u ∙ ap (λ l. links_to l u) e in
      rw (add-one, ← its) (count-take (is_exchange_of u) messages i zero_message k)

  -- it is no node's of these
  pub none-told : (whose : Link) → party_by (get_or messages i zero_message).kind (get_or messages i zero_message) ≡ whose
      → ((u : ℕ) → u < length exchanges → links_to whose u ≡ false) → Counted messages (i + 1) exchanges
  none-told whose e nobody u j =
      let (exact, few) = counted u j in
      (omega (arith, exact, one_more whose e u, bit-false (nobody u j)), omega (arith, few))

  -- it is v's
  pub one-told : (v : ℕ) → party_by (get_or messages i zero_message).kind (get_or messages i zero_message) ≡ Some v → v < length exchanges
      → Counted messages (i + 1) (set exchanges v (get_or exchanges v 0 + 1))
  one-told v e r u j = go (ℕ_discrete u v)
    where
      within : u < length exchanges
      within = rw length-set at j

      go : Dec (u ≡ v) → (get_or (set exchanges v (get_or exchanges v 0 + 1)) u 0 ≡ count (is_exchange_of u) (take (i + 1) messages)) × (get_or (set exchanges v (get_or exchanges v 0 + 1)) u 0 ≤ i + 1)
      go (yes s) =
          let (exact, few) = counted u within in
          let told : get_or (set exchanges v (get_or exchanges v 0 + 1)) u 0 ≡ get_or exchanges u 0 + 1 = rw s (get_or-set_same exchanges v (get_or exchanges v 0 + 1) 0 r) in
          (omega (arith, exact, told, one_more (Some v) e u, bit-true (eq-eqb v u (sym s))), omega (arith, few, told))
      go (no n) =
          let (exact, few) = counted u within in
          let kept = get_or-set_other exchanges v u (get_or exchanges v 0 + 1) 0 n in
          (omega (arith, exact, kept, one_more (Some v) e u, bit-false (ne_eqb v u (λ s. n (sym s)))), omega (arith, few, kept))
