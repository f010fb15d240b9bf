-- R6.1, how a call refuses: its rules stand in their order, and the first whose condition holds
-- gives its reason. Definitions only.
use Rattle.std.specs.Prelude.{ℕ, Bool, cond, List, [], ◌∷◌, Option, None, Some, Result, Ok, Err}
use Rattle.refusal.specs.declared.Refusal.{Refusal}
use Rattle.refusal.specs.Code.{Reason, plain, reason}

-- R6.1: what a call says: its answer, or the reason of a refusal
pub data Coded (A : Type 0) : Type 0 where
  done : A → Coded A
  no : Reason → Coded A

-- R6.1: a reason, and the condition under which it is given
pub data Rule : Type 0 where
  rule : Reason → Bool → Rule

-- the same of a reason that is a number
infix 10 ◌when◌
abbrev pub ◌when◌ : ℕ → Bool → Rule
n when refuses = rule (plain n) refuses

-- R6.1: the first condition that holds refuses, and none where none holds
abbrev pub first : List Rule → Option Reason
first [] = None
first (rule r refuses ∷ rules) = cond refuses (Some r) (first rules)

-- R11.3: what a result of the code refuses
abbrev pub checked : {A : Type 0} → Result A Refusal → Option Reason
checked (Ok a) = None
checked (Err r) = Some (reason r)

-- R6.1: what comes of a call: `refused` of the reason, or else what is accepted
abbrev pub unless_refused : {B : Type 0} → Option Reason → (Reason → B) → B → B
unless_refused None refused accepted = accepted
unless_refused (Some r) refused accepted = refused r

-- R6.1: what comes of a call with these rules
abbrev pub ruled : {B : Type 0} → List Rule → (Reason → B) → B → B
ruled rules refused accepted = unless_refused (first rules) refused accepted
