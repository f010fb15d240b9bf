-- What a search tells is what the rules ask of the lists that the arrays hold, where they ask it of
-- every number: for every network. Assumes nothing.
use mathlib.Core.Path.{◌≡◌, refl, sym, ap, ◌∙◌}
use mathlib.Core.Bool.{Bool, true, false, not, ◌&&◌, ◌||◌}
use mathlib.Core.List.{List, [], ◌∷◌}
use Prim.Native.Nat.{ℕ}
use lib.Dec.{eqb}
use Rattle.predicates.specs.Tests.{any, every}
use Rattle.node.specs.declared.Node.{Node}
use Rattle.node.specs.Shape.{declared_of}
use Rattle.parts.specs.Tests.{is_out}
use Rattle.protocol.specs.Calls.{all_out, key_is_taken as key_is_taken_in_lists}
use Rattle.network.specs.declared.Network.{Network}
use Rattle.network.specs.Arrays.{live}
use Rattle.network.proofs.Places.{every_element}
use Rattle.searches.specs.Searches.{key_is_taken, some_stands}

module _ {A : Type 0} (test : A → Bool) where
  -- some member fails where not every one passes
  some-fails : (l : List A) → any (λ x. not (test x)) l ≡ not (every test l)
  some-fails [] = refl
  some-fails (x ∷ l) = go (test x) (some-fails l)
    where
      go : (b : Bool) → any (λ x. not (test x)) l ≡ not (every test l) → (not b || any (λ x. not (test x)) l) ≡ not (b && every test l)
      go true e = e
      go false e = refl

  -- some member passes where not every one fails
  some-passes : (l : List A) → any test l ≡ not (every (λ x. not (test x)) l)
  some-passes [] = refl
  some-passes (x ∷ l) = go (test x) (some-passes l)
    where
      go : (b : Bool) → any test l ≡ not (every (λ x. not (test x)) l) → (b || any test l) ≡ not (not b && every (λ x. not (test x)) l)
      go true e = refl
      go false e = e

module _ (n : Network) where
  pub stands : some_stands n ≡ not (all_out (live n))
  stands =
      some-fails (λ (node : Node). is_out node.status) (live n).nodes
      ∙ ap not (sym (every_element (λ (node : Node). is_out node.status) (declared_of 0) (live n).nodes))

  pub taken : (key : ℕ) → key_is_taken n key ≡ key_is_taken_in_lists (live n) key
  taken key =
      some-passes (λ (node : Node). eqb node.key key) (live n).nodes
      ∙ ap not (sym (every_element (λ (node : Node). not (eqb node.key key)) (declared_of 0) (live n).nodes))
