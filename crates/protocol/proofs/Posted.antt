-- What calls post: each two messages at most, and none where it is refused, which also leaves the
-- network as it was; they stand at the end of the queue; and the posts of deliveries one after the
-- other. Assumes nothing.
use mathlib.Core.Path.{◌≡◌, refl, sym}
use mathlib.Core.Bool.{true, false, not}
use mathlib.Core.List.{List, [], ◌∷◌, ◌++◌, map, append-nil}
use Rattle.std.specs.Prelude.{Option, None, Some}
use Prim.Native.Nat.{ℕ, ◌+◌, ◌*◌, ◌≤◌}
use native.Mathlib.Omega.{arith}
use lib.ListN.{length, length-append}
use lib.Dec.{T}
use Rattle.predicates.proofs.Laws.{impossible}
use Rattle.predicates.proofs.TestLaws.{is_true}
use Rattle.refusal.specs.Code.{Reason}
use Rattle.refusal.specs.Rules.{no, ◌when◌, first, unless_refused}
use Rattle.parts.specs.declared.Message.{Message}
use Rattle.protocol.specs.declared.Call.{Call}
use Rattle.protocol.specs.declared.Order.TheVariants.{Declare, Create, Join, Leave}
use Rattle.protocol.specs.declared.Call.TheVariants.{Order, Deliver}
use Rattle.protocol.specs.State.{State, well_formed}
use Rattle.protocol.specs.Calls.{Result, refused, rules_of, effect_of, apply_of}
use Rattle.protocol.specs.Answer.{accepted}
use Rattle.protocol.specs.FurtherClaims.{remaining, PostsClaim}
use Rattle.protocol.specs.History.{History, advanced, run}
use Rattle.protocol.specs.Drain.{after_delivery, places, posts_of_all, drained, drain_of}
use Rattle.protocol.proofs.Changes.{Act, drops, lets_in, lets_go, denies, joins, goes, stays_out, stays_in, takes, ignores}
use Rattle.protocol.proofs.Changes.{Accepted, declares, creates, asks, goes_alone, leaves, delivers, Change, refuses, accepts}
use Rattle.protocol.proofs.Cases.{change, accepted_case}
use Rattle.protocol.proofs.Refusals.{accepted-said}

-- ---- two messages at most
act_posts : {s : State} {m : Message} {rest : List Message} {r : Result} → Act s m rest r → length r.posts ≤ 2
act_posts (drops p u a n em out er) = rw er (omega arith)
act_posts (lets_in v p e n k em g room er) = rw er (omega arith)
act_posts (lets_go v p new e n k em d g er) = rw er (omega arith)
act_posts (denies v p new e n em er) = rw er (omega arith)
act_posts (joins p u n em e er) = rw er (omega arith)
act_posts (goes p u n em e er) = rw er (omega arith)
act_posts (stays_out p u em e er) = rw er (omega arith)
act_posts (stays_in p u em e er) = rw er (omega arith)
act_posts (takes p u a n em o new er) = rw er (omega arith)
act_posts (ignores p u a n em o old er) = rw er (omega arith)

change-posts : {s : State} {call : Call} {r : Result} → Change s call r → length r.posts ≤ 2
change-posts (refuses n er) = rw er (omega arith)
change-posts (accepts (declares key ec h er)) = rw er (omega arith)
change-posts (accepts (creates u ec h er)) = rw er (omega arith)
change-posts (accepts (asks u p q ec h er)) = rw er (omega arith)
change-posts (accepts (goes_alone u ec h er)) = rw er (omega arith)
change-posts (accepts (leaves u p q n ec h er)) = rw er (omega arith)
change-posts (accepts (delivers place m rest ec h act)) = act_posts act

pub few-posts : (s : State) (call : Call) → length (apply_of s call).posts ≤ 2
few-posts s call = change-posts (change s call)

-- ---- a refusal leaves the network as it was, and posts nothing
pub refused-same : (s : State) (call : Call) (r : Reason) → (apply_of s call).said ≡ no r → apply_of s call ≡ refused s r
refused-same s call r e = go (change s call) e
  where
    go : {x : Result} → Change s call x → x.said ≡ no r → x ≡ refused s r
    go (refuses n er) f = cc
    go (accepts a) f = let t : T false = rw f at (accepted-said a) in absurd t

pub drain_refused_same : (s : State) (budget : ℕ) (r : Reason) → (drain_of s budget).said ≡ no r → drain_of s budget ≡ refused s r
unfolding drain_of
drain_refused_same s budget r e = go (first ((6 when not (well_formed s)) ∷ [])) e
  where
    go : (o : Option Reason) → (unless_refused o (refused s) (drained s (places budget s))).said ≡ no r → unless_refused o (refused s) (drained s (places budget s)) ≡ refused s r
    go None f = impossible cc
    go (Some n) f = cc

-- ---- what is posted stands at the end of the queue, behind what remains
posts-behind : (s : State) (call : Call) → accepted (effect_of s call).said ≡ true → (effect_of s call).state.messages ≡ remaining s call (effect_of s call).said ++ (effect_of s call).posts
posts-behind s (Order (Declare key)) e = sym (append-nil s.messages)
posts-behind s (Order (Create u)) e = refl
posts-behind s (Order (Join u p q)) e = refl
posts-behind s (Order (Leave u)) e = refl
posts-behind s (Deliver place) e = rw e

remaining-refused : (s : State) (call : Call) (r : Reason) → s.messages ≡ remaining s call (no r) ++ []
remaining-refused s (Order order) r = sym (append-nil s.messages)
remaining-refused s (Deliver place) r = sym (append-nil s.messages)

pub posts_at_the_end : PostsClaim
unfolding apply_of
posts_at_the_end s call = go (first (rules_of s call)) (accepted_case s call)
  where
    go : (o : Option Reason) → (o ≡ None → Accepted s call (effect_of s call))
        → let r = unless_refused o (refused s) (effect_of s call) in r.state.messages ≡ remaining s call r.said ++ r.posts
    go None a = posts-behind s call (is_true _ (accepted-said (a refl)))
    go (Some r) a = remaining-refused s call r

-- ---- deliveries one after the other
pub posts-of-all : (h : History) (places : List ℕ) → h.posts + length (posts_of_all h.state places) ≡ (run h (map Deliver places)).posts
posts-of-all h [] = omega arith
posts-of-all h (place ∷ places) =
    omega (
      arith,
      length-append (apply_of h.state (Deliver place)).posts (posts_of_all (after_delivery h.state place) places),
      posts-of-all (advanced h (Deliver place)) places,
    )

pub few_posts_of_all : (s : State) (places : List ℕ) → length (posts_of_all s places) ≤ 2 * length places
few_posts_of_all s [] = omega arith
few_posts_of_all s (place ∷ places) =
    omega (
      arith,
      length-append (apply_of s (Deliver place)).posts (posts_of_all (after_delivery s place) places),
      few-posts s (Deliver place),
      few_posts_of_all (after_delivery s place) places,
    )
