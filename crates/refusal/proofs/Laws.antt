-- Laws of refusals: each has a number of its own, so a number names its refusal; rules after other
-- rules; what it shows that no rule refuses, and that a number is not given. Assumes nothing.
use mathlib.Core.Path.{◌≡◌, refl, sym, ap, ◌∙◌}
use mathlib.Core.Bool.{Bool, true, false, ◌&&◌, ◌||◌, cond, true≢false}
use mathlib.Core.List.{List, [], ◌∷◌, ◌++◌}
use Rattle.std.specs.Prelude.{Option, None, Some}
use Prim.Native.Nat.{ℕ, ◌-◌}
use lib.ListN.{get_or}
use lib.Dec.{ltb, eqb}
use borrow.Author.Tests.{eqb-false}
use Rattle.refusal.specs.declared.Refusal.{Refusal}
use Rattle.refusal.specs.declared.Refusal.TheVariants.{UnknownMark, CutShort, BadDigit, SerialTooLarge, Undeclared, Malformed, ScriptTooLong, NetworkFull, KeyTaken, NotAllOut, NotOut, NotBetween, NoticeWaiting, NotIn, SequenceSpent, QueueFull, NoMessage, StartNotInserted, OwnerNotFound}
use Rattle.refusal.specs.Code.{code, Reason, plain, reason}
use Rattle.refusal.specs.Rules.{Rule, rule, first, unless_refused}

-- the numbers from 1, and those from 20
from_input : List Refusal
from_input = UnknownMark ∷ CutShort ∷ BadDigit ∷ SerialTooLarge ∷ Undeclared ∷ Malformed ∷ ScriptTooLong ∷ []

from_state : List Refusal
from_state = NetworkFull ∷ KeyTaken ∷ NotAllOut ∷ NotOut ∷ NotBetween ∷ NoticeWaiting ∷ NotIn ∷ SequenceSpent ∷ QueueFull ∷ NoMessage ∷ StartNotInserted ∷ OwnerNotFound ∷ []

named : ℕ → Refusal
named n = cond (ltb n 20) (get_or from_input (n - 1) UnknownMark) (get_or from_state (n - 20) UnknownMark)

named-code : (r : Refusal) → named (code r) ≡ r
unfolding named from_input from_state
named-code UnknownMark = refl
named-code CutShort = refl
named-code BadDigit = refl
named-code SerialTooLarge = refl
named-code Undeclared = refl
named-code Malformed = refl
named-code ScriptTooLong = refl
named-code NetworkFull = refl
named-code KeyTaken = refl
named-code NotAllOut = refl
named-code NotOut = refl
named-code NotBetween = refl
named-code NoticeWaiting = refl
named-code NotIn = refl
named-code SequenceSpent = refl
named-code QueueFull = refl
named-code NoMessage = refl
named-code StartNotInserted = refl
named-code OwnerNotFound = refl

pub code_injective : (r s : Refusal) → code r ≡ code s → r ≡ s
code_injective r s e = sym (named-code r) ∙ ap named e ∙ named-code s

pub reason_injective : (r s : Refusal) → reason r ≡ reason s → r ≡ s
reason_injective r s e = code_injective r s cc

-- ---- rules after other rules
pub first_append : (rules rest : List Rule) → first (rules ++ rest) ≡ unless_refused (first rules) Some (first rest)
first_append [] rest = refl
first_append (rule r true ∷ rules) rest = refl
first_append (rule r false ∷ rules) rest = first_append rules rest

-- ---- where no rule refuses, no condition of theirs holds
abbrev pub Cleared : List Rule → Type 0
Cleared [] = Unit {0}
Cleared (rule r refuses ∷ rules) = (refuses ≡ false) × Cleared rules

pub cleared : (rules : List Rule) → first rules ≡ None → Cleared rules
cleared [] e = tt
cleared (rule r true ∷ rules) e = absurd (true≢false cc)
cleared (rule r false ∷ rules) e = (refl, cleared rules e)

-- two rules that change places: it shows where both hold
pub exchanged : (m n : Reason) (a b : Bool) (rest : List Rule) → first (rule m a ∷ rule n b ∷ rest) ≡ cond (a && b) (Some m) (first (rule n b ∷ rule m a ∷ rest))
exchanged m n true true rest = refl
exchanged m n true false rest = refl
exchanged m n false true rest = refl
exchanged m n false false rest = refl

-- what is told after rules matters only where none of them refuses
pub after_rules : (rules : List Rule) {rest others : Option Reason} → (Cleared rules → rest ≡ others) → unless_refused (first rules) Some rest ≡ unless_refused (first rules) Some others
after_rules [] same = same tt
after_rules (rule r true ∷ rules) same = refl
after_rules (rule r false ∷ rules) same = after_rules rules (λ clear. same (refl, clear))

pub rest_cleared : (rules : List Rule) {rest : Option Reason} → unless_refused (first rules) Some rest ≡ None → rest ≡ None
rest_cleared [] e = e
rest_cleared (rule r true ∷ rules) e = absurd (true≢false cc)
rest_cleared (rule r false ∷ rules) e = rest_cleared rules e

-- ---- a number that is not given: each rule has another, or its condition does not hold where no
-- rule before it refuses
pub data Never (n : ℕ) : List Rule → Type 0 where
  end : Never n []
  other : {m : ℕ} {refuses : Bool} {rules : List Rule} → eqb m n ≡ false → (refuses ≡ false → Never n rules) → Never n (rule (plain m) refuses ∷ rules)
  fails : {m : ℕ} {refuses : Bool} {rules : List Rule} → refuses ≡ false → Never n rules → Never n (rule (plain m) refuses ∷ rules)

pub never : {n : ℕ} {rules : List Rule} → Never n rules → first rules ≡ Some (plain n) → ⊥
never end e = absurd (true≢false cc)
never {n} (other {m} {refuses} {rules} d t) e = go refuses refl (λ f. never (t f))
  where
    go : (b : Bool) → refuses ≡ b → (refuses ≡ false → first rules ≡ Some (plain n) → ⊥) → ⊥
    go true f later = let given : Some (plain m) ≡ Some (plain n) = rw f at e in let same : m ≡ n = cc in eqb-false m n d same
    go false f later = later f (rw f at e)
never (fails f t) e = never t (rw f at e)

-- where no rule has the number, which is computed, it is not given
abbrev pub gives : ℕ → List Rule → Bool
gives n [] = false
gives n (rule (plain m) refuses ∷ rules) = eqb m n || gives n rules

pub others : {n : ℕ} {rules : List Rule} → gives n rules ≡ false → Never n rules
others {rules = []} e = end
others {n} {rules = rule (plain m) refuses ∷ rules} e = go (eqb m n) refl e others
  where
    go : (b : Bool) → eqb m n ≡ b → (b || gives n rules) ≡ false → (gives n rules ≡ false → Never n rules) → Never n (rule (plain m) refuses ∷ rules)
    go true d f later = absurd (true≢false f)
    go false d f later = other d (λ _. later f)
