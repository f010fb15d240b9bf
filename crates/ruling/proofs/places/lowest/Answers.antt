-- `ruling::places::lowest` meets its contract: a place that is passed is not the lowest. Assumes
-- nothing.
use Prim.Native.Nat.{ℕ, suc, ◌+◌, ◌-◌}
use mathlib.Core.Path.{◌≡◌, refl, sym, ◌∙◌}
use mathlib.Core.Bool.{false}
use native.Mathlib.Omega.{arith}
use native.Mathlib.Numerals.{add-one}
use Rattle.network.specs.declared.Network.{Network}
use Rattle.ruling.specs.Places.{finds_room, lowest_place_from}
use Rattle.ruling.proofs.places.lowest.Goals as goal

pub returns-then-finds_room : goal.returns-then-finds_room
returns-then-finds_room c =
    let n = c.args.network.now in
    let place = c.loop-place.place in
    let left : n.waiting - place ≡ suc (n.waiting - (place + 1)) = omega arith in
    sym (c.loop-place.invariant ∙ rw (left, sym c.finds_room.ensures ∙ c.if-finds_room.true) refl)

passed : (n : Network) (place k left : ℕ) → left ≡ suc k → finds_room n place ≡ false → lowest_place_from n place left ≡ lowest_place_from n (suc place) k
passed n place k left e h = rw (e, h) refl

pub loop-place-preserved : goal.loop-place-preserved
loop-place-preserved c =
    let n = c.args.network.now in
    let place = c.loop-place.place in
    rw add-one (c.loop-place.invariant ∙ passed n place (n.waiting - suc place) (n.waiting - place) (omega arith) (sym c.finds_room.ensures ∙ c.if-finds_room.false))
