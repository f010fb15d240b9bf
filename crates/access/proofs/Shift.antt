-- A gap is closed by copying the later messages one place down, over it; the last place is then
-- free. Assumes nothing.
use mathlib.Core.Path.{◌≡◌, ap, ◌∙◌}
use mathlib.Core.List.{List, ◌∷◌, ◌++◌}
use Prim.Native.Nat.{ℕ, suc, ◌+◌, ◌-◌, ◌≤◌, ◌<◌}
use native.Mathlib.Omega.{arith}
use native.Mathlib.Numerals.{add-one}
use lib.ListN.{length, take, drop, get_or, set, length-append, length-take, length-drop}
use lib.Seq.{paste, set_at, take-take, drop-cons, length-take-le}
use Rattle.std.proofs.lemmas.List.{drop-take}
use Rattle.parts.specs.declared.Message.{Message}
use Rattle.protocol.specs.Calls.{without}

pub length_without : (place : ℕ) (ms : List Message) → place < length ms → length ms ≡ suc (length (without place ms))
length_without place ms k = simp (length-append, length-take, length-drop) (omega arith)

-- k messages behind the gap, and a message m written where the last of them stood
module _ (a : List Message) (place k : ℕ) (within : place + k < length a) (m : Message) where
  abbrev front : List Message
  front = take place a ++ take k (drop (place + 1) a)

  length_front : length front ≡ place + k
  length_front = rw (length-append, length-take-le place a (omega arith), length-take-le k (drop (place + 1) a) (omega (arith, length-drop (place + 1) a)))

  front_without : front ≡ without place (take (place + 1 + k) a)
  front_without = rw (take-take place (place + 1 + k) a (omega arith), add-one, drop-take (suc place) k a)

  gap_closed : set (paste a place (drop (place + 1) a) k) (place + k) m ≡ without place (take (place + 1 + k) a) ++ m ∷ drop (place + 1 + k) a
  gap_closed =
      let behind : suc (place + k) ≡ place + 1 + k = omega arith in
      ap (λ rest. set (front ++ rest) (place + k) m) (drop-cons a (place + k) m within)
      ∙ set_at front (get_or a (place + k) m) (drop (suc (place + k)) a) m (place + k) length_front
      ∙ ap (λ i. front ++ m ∷ drop i a) behind
      ∙ ap (λ p. p ++ m ∷ drop (place + 1 + k) a) front_without

-- as the code has it: n messages are there
pub closes : (a : List Message) (place n : ℕ) → place < n → n ≤ length a → (m : Message)
    → set (paste a place (drop (place + 1) a) (n - (place + 1))) (n - 1) m ≡ without place (take n a) ++ m ∷ drop n a
closes a place n here few m =
    let last : n - 1 ≡ place + (n - (place + 1)) = omega arith in
    let all : place + 1 + (n - (place + 1)) ≡ n = omega arith in
    ap (λ i. set (paste a place (drop (place + 1) a) (n - (place + 1))) i m) last
    ∙ gap_closed a place (n - (place + 1)) (omega arith) m
    ∙ ap (λ i. without place (take i a) ++ m ∷ drop i a) all
