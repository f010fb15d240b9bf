-- After every list of calls the network is well formed and the invariant holds: it holds of the
-- empty network, and each call keeps it. The claim over lists is read off it. Assumes nothing.
use Rattle.std.specs.Prelude.{Some}
use mathlib.Core.Path.{◌≡◌, refl, sym, ap, ◌∙◌}
use mathlib.Core.Logic.{◌↔◌, ◌≢◌}
use mathlib.Core.Bool.{Bool, true, false}
use mathlib.Core.List.{List, [], ◌∷◌}
use Prim.Native.Nat.{ℕ, ◌<◌}
use native.Mathlib.Omega.{arith}
use native.Mathlib.Decide.{ℕ_discrete}
use lib.ListN.{length}
use borrow.Author.Tests.{eq-eqb, eqb-true}
use Rattle.predicates.specs.Tests.{any}
use Rattle.predicates.proofs.Laws.{impossible}
use Rattle.predicates.proofs.TestLaws.{◌∈◌, holds, is_true, not-both, none_in, some_in}
use mathlib.Core.List.Memᴰ.{not-nil as in-none}
use Rattle.sequence.proofs.Laws.{first_fits}
use Rattle.links.proofs.Circuit.{no-ring, predecessor, circuit}
use Rattle.parts.specs.declared.Status.{Status}
use Rattle.parts.specs.declared.Status.TheVariants.{Out, Ins, In, Del}
use Rattle.parts.specs.declared.Kind.{Kind}
use Rattle.parts.specs.declared.Kind.TheVariants.{SetR, SetRAck, SetRNak, SetL}
use Rattle.parts.specs.declared.Message.{Message}
use Rattle.parts.specs.Tests.{is_in_or_del, seq_of}
use Rattle.node.specs.Actions.{set_r_ack}
use Rattle.node.proofs.FitLaws.{number-named}
use Rattle.protocol.specs.declared.Call.{Call}
use Rattle.protocol.specs.State.{State, node_at, status_at, left_at, right_at, is_ack_to, is_notice_to, notice_waits, is_inserted, inserted}
use Rattle.protocol.specs.History.{History, start, advanced, run, history}
use Rattle.protocol.specs.Claim.{Inserted, Sound, RingClaim}
use Rattle.protocol.specs.FurtherClaims.{NoneLost}
use Rattle.protocol.proofs.Nodes.{declared_unless_out}
use Rattle.protocol.proofs.Facts.{WellFormed, tested}
use Rattle.protocol.proofs.Cases.{change}
use Rattle.protocol.proofs.Numbers.{numbers-tested, numbers-kept}
use Rattle.protocol.proofs.Kept.{preserves}
use Rattle.protocol.proofs.Lively.{lively}
use Rattle.protocol.proofs.Invariant.{Member, Keeps, stored, coming, LeftLink, Round, Invariant}
use Rattle.protocol.proofs.Frames.{settled_in, settled_out, ins_not_del, member_not_out}
use Rattle.protocol.proofs.Accounts.{accounted, settled}
use Rattle.protocol.proofs.Steps.{Good, call-holds}

-- ---- from the empty network, over any list
good_start : Good start
good_start = record {
  well_formed = record {
    few_nodes = omega arith;
    few_messages = omega arith;
    node = λ u k. absurd (omega arith);
    keys = λ u v k. absurd (omega arith);
    exchange = λ u k. absurd (omega arith);
    message = λ m i. absurd (in-none i);
  };
  numbers = record { left = λ u. first_fits; right = λ u. refl; waiting = λ m i. absurd (in-none i) };
  invariant = record {
    exchanges = record {
      joiners = λ u e. absurd (settled_out.0 e);
      leavers = λ u e. absurd (settled_out.1 e);
      requests = λ v p new e n i. absurd (in-none i);
      quiet = λ w u a n e. absurd (settled_out.0 e);
    };
    order = record {
      order = [];
      ring = no-ring;
      members = λ u. (λ i. absurd (in-none i), λ t. impossible t);
      as_told = λ u. refl;
      lefts = λ v u R t. impossible t;
    };
  };
  none_lost = λ u. refl;
  accounts = refl;
}

pub good-next : (h : History) → Good h → (call : Call) → Good (advanced h call)
good-next h g call =
    let c = change h.state call in
    let p = preserves g.well_formed c in
    record {
      well_formed = p.well_formed;
      numbers = numbers-kept h.state g.numbers c;
      invariant = call-holds h g c;
      none_lost = λ u. omega (arith, p.balanced u, g.none_lost u);
      accounts = omega (arith, g.accounts, accounted c);
    }

good-run : (calls : List Call) (h : History) → Good h → Good (run h calls)
good-run [] h g = g
good-run (call ∷ calls) h g = good-run calls (advanced h call) (good-next h g call)

pub good : (calls : List Call) → Good (history calls)
good calls = good-run calls start good_start

-- ---- the claim
-- an acknowledgement to u, spelled out
ack-from : (u : ℕ) (m : Message) → is_ack_to u m ≡ true → (w : ℕ) × (n : ℕ) × (m ≡ set_r_ack w u n)
ack-from u m t = go m.kind m.sender m.to t
  where
    go : (kind : Kind) (v p : ℕ) → is_ack_to u (record { sender = v; to = p; kind = kind }) ≡ true → (w : ℕ) × (n : ℕ) × (record { sender = v; to = p; kind = kind } ≡ set_r_ack w u n)
    go (SetR new e n) v p t = impossible t
    go (SetRAck n) v p t = (v, n, ap (λ q. set_r_ack v q n) (eqb-true p u t))
    go SetRNak v p t = impossible t
    go (SetL a n) v p t = impossible t

module _ {s : State} {told joins : ℕ → Bool} (w : WellFormed s) (inv : Invariant (node_at s) s.messages told joins) where
  -- an inserted node keeps a number for its right link
  keeps : (v : ℕ) → Member (node_at s) s.messages v → (R : ℕ) × Keeps (node_at s) s.messages v R
  keeps v m = go (status_at s v) refl
    where
      declared : v < length s.nodes
      declared = declared_unless_out s v (member_not_out (node_at s) s.messages v m)

      by_number : is_in_or_del (status_at s v) ≡ true → status_at s v ≢ Ins → (R : ℕ) × Keeps (node_at s) s.messages v R
      by_number e not-ins = (seq_of (node_at s v).rseq, stored not-ins (number-named (w.node v declared) e))

      go : (status : Status) → status_at s v ≡ status → (R : ℕ) × Keeps (node_at s) s.messages v R
      go Out e = absurd (member_not_out (node_at s) s.messages v m e)
      go Ins e =
          let (x, i, t) = some_in (is_ack_to v) s.messages (sym (ap (λ t. is_inserted t (any (is_ack_to v) s.messages)) e) ∙ m) in
          let (q, n, f) = ack-from v x t in
          (n, coming e q (rw f at i))
      go In e = by_number (ap is_in_or_del e) (λ f. settled_in.0 (sym e ∙ f))
      go Del e = by_number (ap is_in_or_del e) (λ f. ins_not_del (sym f ∙ e))

  -- where no notice waits, the left link names the predecessor
  left-holds : (u p : ℕ) → notice_waits s u ≡ false → Member (node_at s) s.messages p → right_at s p ≡ Some u → left_at s u ≡ Some p
  left-holds u p quiet m right =
      let (R, k) = keeps p m in
      let link = inv.order.lefts p u R m right k in
      go R link (ℕ_discrete (node_at s u).lseq R)
    where
      go : (R : ℕ) → LeftLink (node_at s) s.messages p u R → Dec ((node_at s u).lseq ≡ R) → left_at s u ≡ Some p
      go R link (yes e) = link.current e
      go R link (no d) = let (x, a, i) = link.awaited d in absurd (not-both (eq-eqb u u refl) (none_in (is_notice_to u) quiet i))

-- the list that is the ring is that of the inserted nodes
pub listed-inserted : (s : State) {told : ℕ → Bool} (o : Round (node_at s) s.messages told) (u : ℕ) → (u ∈ o.order) ↔ Inserted s u
unfolding inserted
listed-inserted s o u = (λ i. holds ((o.members u).0 i), λ t. (o.members u).1 (is_true _ t))

pub sound : (h : History) → Good h → Sound h
unfolding inserted
sound h g =
    let s = h.state in
    let o = g.invariant.order in
    let member : (u : ℕ) → (u ∈ o.order) ↔ Inserted s u = listed-inserted s o in
    record {
      well_formed = holds (tested s g.well_formed);
      numbers_fit = holds (numbers-tested s g.numbers);
      told = o.as_told;
      ring = record {
        circuit = circuit o.ring (Inserted s) member;
        predecessor = λ u t. let p = predecessor o.ring ((member u).1 t) in
            record { node = p.node; member = (member p.node).0 p.member; links = p.links; only = λ m i e. p.only m ((member m).1 i) e };
        left = λ u p _ quiet t right. left-holds g.well_formed g.invariant u p quiet (is_true _ t) right;
      };
      lively = lively s g.well_formed;
      settled = settled s g.none_lost;
      accounts = g.accounts;
    }

-- R10.17: no request is lost
pub none_lost : NoneLost
none_lost calls = (good calls).none_lost

-- Demand 3: for every list of calls, of any arguments, refused ones included
pub ring : RingClaim
ring calls = sound (history calls) (good calls)
