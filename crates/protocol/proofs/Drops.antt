-- Which deliveries are answered `dropped`: of the cases of a delivery on a well-formed network just
-- that of a notice to a node that is out. Assumes nothing.
use mathlib.Core.Path.{◌≡◌, refl}
use mathlib.Core.Bool.{true, false, ◌&&◌, and-false}
use mathlib.Core.List.{List}
use Rattle.std.specs.Prelude.{Option, None, Some}
use Prim.Native.Nat.{ℕ}
use lib.ListN.{length}
use lib.Dec.{T, ltb}
use borrow.Author.Tests.{ltb-true, not-false}
use Rattle.predicates.proofs.Laws.{impossible, both}
use Rattle.predicates.proofs.TestLaws.{holds, is_true}
use Rattle.refusal.specs.Code.{Reason}
use Rattle.refusal.specs.Rules.{done, first, unless_refused}
use Rattle.refusal.proofs.Laws.{cleared}
use Rattle.parts.specs.declared.Kind.{Kind}
use Rattle.parts.specs.declared.Kind.TheVariants.{SetR, SetRAck, SetRNak, SetL}
use Rattle.parts.specs.declared.Message.{Message}
use Rattle.parts.specs.Tests.{is_notice, is_out}
use Rattle.node.specs.declared.Node.{Node}
use Rattle.node.specs.declared.Outcome.TheVariants.{Dropped}
use Rattle.node.specs.Actions.{would_grant}
use Rattle.node.proofs.ActionLaws.{tested_out}
use Rattle.protocol.specs.declared.Call.TheVariants.{Deliver}
use Rattle.protocol.specs.declared.Reply.TheVariants.{Stepped}
use Rattle.protocol.specs.State.{State, node_at, status_at, well_formed}
use Rattle.protocol.specs.Calls.{Result, refused, is_full, message_at, deliver_rules, delivering, apply_of}
use Rattle.protocol.specs.FurtherClaims.{notice_to_out, DropsClaim}
use Rattle.protocol.proofs.Facts.{well-formed}
use Rattle.protocol.proofs.Changes.{Act, drops, lets_in, lets_go, denies, joins, goes, stays_out, stays_in, takes, ignores}
use Rattle.protocol.proofs.Cases.{waiting_case, delivery}

-- a message that is dropped is a notice, to a node that is out
only-notices : {s : State} {m : Message} {rest : List Message} {r : Result} → Act s m rest r → r.said ≡ done (Stepped Dropped) → (is_notice m.kind && is_out (status_at s m.to)) ≡ true
only-notices (drops p u a n em out er) e = rw (em, out)
only-notices (lets_in v p x n k em g room er) e = impossible cc
only-notices (lets_go v p new x n k em d g er) e = impossible cc
only-notices (denies v p new x n em er) e = impossible cc
only-notices (joins p u n em ins er) e = impossible cc
only-notices (goes p u n em del er) e = impossible cc
only-notices (stays_out p u em ins er) e = impossible cc
only-notices (stays_in p u em del er) e = impossible cc
only-notices (takes p u a n em o new er) e = impossible cc
only-notices (ignores p u a n em o old er) e = impossible cc

-- and such a message is dropped
is-dropped : {s : State} {m : Message} {rest : List Message} {r : Result} → Act s m rest r → is_notice m.kind ≡ true → is_out (status_at s m.to) ≡ true → r.said ≡ done (Stepped Dropped)
is-dropped (drops p u a n em out er) notice is-out = rw er
is-dropped (lets_in v p x n k em g room er) notice is-out = impossible (rw em at notice)
is-dropped (lets_go v p new x n k em d g er) notice is-out = impossible (rw em at notice)
is-dropped (denies v p new x n em er) notice is-out = impossible (rw em at notice)
is-dropped (joins p u n em ins er) notice is-out = impossible (rw em at notice)
is-dropped (goes p u n em del er) notice is-out = impossible (rw em at notice)
is-dropped (stays_out p u em ins er) notice is-out = impossible (rw em at notice)
is-dropped (stays_in p u em del er) notice is-out = impossible (rw em at notice)
is-dropped {s} (takes p u a n em o new er) notice is-out = absurd (o (tested_out (status_at s u) (rw em at is-out)))
is-dropped {s} (ignores p u a n em o old er) notice is-out = absurd (o (tested_out (status_at s u) (rw em at is-out)))

-- which is no request that would be granted
never-granted : (p : Node) (v : ℕ) (kind : Kind) → is_notice kind ≡ true → would_grant p v kind ≡ false
never-granted p v (SetR new x n) notice = impossible notice
never-granted p v (SetRAck n) notice = refl
never-granted p v SetRNak notice = refl
never-granted p v (SetL left n) notice = refl

module _ (s : State) (place : ℕ) where
  to-notices : (apply_of s (Deliver place)).said ≡ done (Stepped Dropped) → T (well_formed s && notice_to_out s place)
  unfolding apply_of
  to-notices e = go (first (deliver_rules s place)) refl e
    where
      go : (o : Option Reason) → first (deliver_rules s place) ≡ o → (unless_refused o (refused s) (delivering s place)).said ≡ done (Stepped Dropped) → T (well_formed s && notice_to_out s place)
      go (Some r) refuses e = impossible cc
      go None clear e =
          let (ok, (room, (absent, _))) = cleared (deliver_rules s place) clear in
          let sound = not-false (well_formed s) ok in
          let there = not-false (ltb place (length s.messages)) absent in
          let act = (waiting_case s (well-formed s sound) place (ltb-true place _ there) (rw there at room)).1 in
          rw (sound, there) (holds (only-notices act e))

  from-notices : T (well_formed s && notice_to_out s place) → (apply_of s (Deliver place)).said ≡ done (Stepped Dropped)
  from-notices t =
      let (sound, found) = both (well_formed s) _ (is_true _ t) in
      let (there, shown) = both (ltb place (length s.messages)) _ found in
      let (notice, is-out) = both (is_notice (message_at s place).kind) _ shown in
      let not-granted = never-granted (node_at s (message_at s place).to) (message_at s place).sender (message_at s place).kind notice in
      is-dropped (delivery (well-formed s sound) (ltb-true place _ there) (rw not-granted (and-false (is_full s)))) notice is-out

pub dropped : DropsClaim
dropped s place = (to-notices s place, from-notices s place)
