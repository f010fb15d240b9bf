-- The rules of the owner, by what the arrays of a well-formed network are asked: what each refuses,
-- in their order, before the walk. Assumes nothing.
use mathlib.Core.Path.{◌≡◌, sym, ap, ◌∙◌}
use mathlib.Core.Logic.{⊎_elim}
use mathlib.Core.Bool.{true, false, cond}
use Prim.Native.Nat.{ℕ, ◌≤◌, ◌<◌}
use lib.Dec.{ltb}
use borrow.Author.Tests.{ltb-true, ltb-false, lt-ltb, le-ltb}
use Rattle.predicates.proofs.TestLaws.{decided}
use Rattle.refusal.specs.Code.{plain}
use Rattle.refusal.specs.Rules.{no as refusal}
use Rattle.serial.specs.Serial.{in_range}
use Rattle.protocol.specs.State.{declared}
use Rattle.protocol.specs.Questions.{walked, owner_of}
use Rattle.network.specs.declared.Network.{Network}
use Rattle.network.specs.Arrays.{live, well_formed}
use Rattle.network.proofs.Lengths.{Lengths}
use Rattle.network.proofs.ArrayLaws.{well-formed}
use Rattle.network.proofs.LiveLaws.{nodes-length}
use Rattle.members.specs.Members.{member_in}
use Rattle.members.proofs.MemberLaws.{member-live}
use Rattle.owners.specs.Owners.{walk_from, owner_in}
use Rattle.owners.proofs.WalkLaws.{walk-live}

module _ (n : Network) (l : Lengths n) (h : well_formed n ≡ true) where
  module _ (start serial : ℕ) where
    pub start-undeclared : n.count ≤ start → owner_of (live n) start serial ≡ refusal (plain 5)
    unfolding owner_of
    start-undeclared k = rw ((well-formed n h).lists, nodes-length n l h, le-ltb start n.count k)

    module _ (k : start < n.count) where
      declared-start : declared (live n) start ≡ true
      declared-start = rw (nodes-length n l h) (lt-ltb start n.count k)

      pub serial-too-large : in_range serial ≡ false → owner_of (live n) start serial ≡ refusal (plain 4)
      unfolding owner_of
      serial-too-large e = rw ((well-formed n h).lists, declared-start, e)

      pub start-not-inserted : in_range serial ≡ true → member_in n start ≡ false → owner_of (live n) start serial ≡ refusal (plain 30)
      unfolding owner_of
      start-not-inserted e f = rw ((well-formed n h).lists, declared-start, e, sym (member-live n l h start k) ∙ f)

      pub owner-walked : in_range serial ≡ true → member_in n start ≡ true → owner_of (live n) start serial ≡ walked (walk_from n serial n.count start 0)
      unfolding owner_of
      owner-walked e f = rw ((well-formed n h).lists, declared-start, e, sym (member-live n l h start k) ∙ f) (ap walked (sym (walk-live n l h serial start k)))

    -- what the tests come to is what the rules say of the lists
    pub owner-live : owner_in n start serial ≡ owner_of (live n) start serial
    owner-live = ⊎_elim (λ t. rw t (there (ltb-true start n.count t))) (λ f. rw f (sym (start-undeclared (ltb-false start n.count f)))) (decided (ltb start n.count))
      where
        member : (k : start < n.count) → in_range serial ≡ true → cond (member_in n start) (walked (walk_from n serial n.count start 0)) (refusal (plain 30)) ≡ owner_of (live n) start serial
        member k e = ⊎_elim (λ t. rw t (sym (owner-walked k e t))) (λ f. rw f (sym (start-not-inserted k e f))) (decided (member_in n start))

        there : (k : start < n.count)
            → cond (in_range serial) (cond (member_in n start) (walked (walk_from n serial n.count start 0)) (refusal (plain 30))) (refusal (plain 4)) ≡ owner_of (live n) start serial
        there k = ⊎_elim (λ t. rw t (member k t)) (λ f. rw f (sym (serial-too-large k f))) (decided (in_range serial))
