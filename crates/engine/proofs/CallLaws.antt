-- What the code decides on a well-formed network, carried out, is what the rules make of its lists:
-- what it reads out of the arrays stands in the lists, its tests come to the rules, and what it
-- writes are the lists so changed. Assumes nothing.
use mathlib.Core.Path.{◌≡◌, refl, sym, ap, ◌∙◌}
use mathlib.Core.Logic.{⊎_elim}
use mathlib.Core.Bool.{Bool, true, false, not, ◌&&◌, ◌||◌, cond, and-false}
use Rattle.std.specs.Prelude.{Option, None, Some}
use mathlib.Core.List.{List}
use Prim.Native.Nat.{ℕ, ◌+◌, ◌-◌, ◌≤◌, ◌<◌}
use native.Mathlib.Omega.{arith}
use lib.ListN.{length}
use lib.Dec.{ltb}
use borrow.Author.Tests.{leb-true, ltb-true, le-leb, lt-ltb, le-ltb, not-false}
use Rattle.predicates.proofs.Laws.{impossible, both}
use Rattle.predicates.proofs.TestLaws.{decided, is_true}
use Rattle.refusal.specs.Code.{Reason, plain}
use Rattle.refusal.specs.Rules.{Coded, done, no, first, unless_refused}
use Rattle.refusal.proofs.Laws.{cleared, rest_cleared}
use Rattle.serial.specs.Serial.{in_range}
use Rattle.node.specs.declared.Node.{Node}
use Rattle.parts.specs.declared.Message.{Message}
use Rattle.node.specs.Shape.{declared_of, capacity}
use Rattle.node.proofs.ActionLaws.{join-tested, leave-tested}
use Rattle.node.specs.Actions.{Effect, create_of, join_unchecked, join_of, leave_unchecked, leave_of, act_of, would_grant}
use Rattle.protocol.specs.declared.Call.{Call}
use Rattle.protocol.specs.declared.Order.TheVariants.{Declare, Create, Join, Leave}
use Rattle.protocol.specs.declared.Call.TheVariants.{Order, Deliver}
use Rattle.protocol.specs.declared.Reply.TheVariants.{Declared}
use Rattle.protocol.specs.State.{queue_limit, declared, node_at, notice_waits, well_formed as lists_are_well_formed}
use Rattle.protocol.specs.Calls.{stepped, commit, declaring, create_rules, peer_at, join_rules, leave_rules, message_at, without, is_grantable, deliver_rules, receiving, rules_of, effect_of, apply_of as apply_to_lists}
use Rattle.protocol.specs.Answer.{accepted}
use Rattle.protocol.proofs.Facts.{WellFormed as ListsWellFormed, well-formed as lists-well-formed, node-sound, join-sound}
use Rattle.protocol.proofs.Waiting.{taken as message-taken}
use Rattle.protocol.proofs.Cases.{tested-below, declared-addressee, accepted_case, received as received-acts}
use Rattle.protocol.proofs.Refusals.{accepted-said}
use Rattle.network.specs.declared.Network.{Network}
use Rattle.network.specs.Arrays.{live, well_formed, held}
use Rattle.network.proofs.Lengths.{Lengths}
use Rattle.network.proofs.ArrayLaws.{well-formed, held-live}
use Rattle.network.proofs.LiveLaws.{nodes-length, messages-length, message-live, node_read}
use Rattle.access.specs.declared.Arrival.{Arrival}
use Rattle.access.specs.Changes.{placed, added, closed, all_posted, committed}
use Rattle.network.specs.Reads.{node_in}
use Rattle.access.specs.Sights.{sight_of, arrival_of}
use Rattle.access.proofs.Shift.{length_without}
use Rattle.access.proofs.Stores.{added-held, closed-held, stepped-held}
use Rattle.searches.specs.declared.Found.{Found}
use Rattle.searches.specs.Searches.{key_is_taken as key_is_taken_in, some_stands, notice_waits as notice_waits_in}
use Rattle.searches.proofs.Searches.{stands, taken}
use Rattle.decision.specs.Decided.{Decided, spots_of, turned_away, adding, stepping, delivering, after_step, room_tests}
use Rattle.rules.specs.Decisions.{unless, declare_tests, create_tests, before_joining, join_step, leave_tests, receive_step, deliver_tests}
use Rattle.ruling.specs.Rulings.{decision_on}
use Rattle.engine.specs.Outcomes.{counted, refused, in_arrays, apply_of}
use Rattle.engine.specs.Computed.{outcome}
use Rattle.engine.proofs.RunLaws.{refused-here}
use Rattle.engine.proofs.StepLaws.{create_posts, join-says, leave-says, deliver-says}

-- ---- tests put together
-- where the number named is declared the rest says what the rules say, and where it is not they say
-- 5
unless-says : (known : Bool) (rest says : Option Reason) → (known ≡ true → rest ≡ says) → (known ≡ false → Some (plain 5) ≡ says) → unless known rest ≡ says
unless-says true rest says there absent = there refl
unless-says false rest says there absent = absent refl

unless_known : (known : Bool) (rest : Option Reason) → unless known rest ≡ None → (known ≡ true) × (rest ≡ None)
unless_known true rest e = (refl, e)
unless_known false rest e = impossible cc

-- one of three nodes that is not declared
some_undeclared : (a b c : Bool) (rest : Option Reason) → (a && (b && c)) ≡ false → cond (not a) (Some (plain 5)) (cond (not b) (Some (plain 5)) (cond (not c) (Some (plain 5)) rest)) ≡ Some (plain 5)
some_undeclared false b c rest e = refl
some_undeclared true false c rest e = refl
some_undeclared true true false rest e = refl
some_undeclared true true true rest e = impossible (sym e)

room-cleared : (waiting : ℕ) (posts : List Message) → first (room_tests waiting posts) ≡ None → waiting + length posts ≤ queue_limit
room-cleared waiting posts clear = leb-true _ _ (not-false _ (cleared (room_tests waiting posts) clear).0)

after-cleared : {A : Type 0} (said : Coded A) (rest : Option Reason) → after_step said rest ≡ None → rest ≡ None
after-cleared (done a) rest e = e
after-cleared (no r) rest e = impossible cc

-- a refusal leaves the network as it was
pub nothing-written : (n : Network) (r : Reason) → counted (refused n r) ≡ outcome n (turned_away r)
unfolding committed
nothing-written n r = refl

-- ---- a well-formed network
module _ (n : Network) (l : Lengths n) (h : well_formed n ≡ true) where
  lists : ListsWellFormed (live n)
  lists = lists-well-formed (live n) (well-formed n h).lists

  lists-tested : lists_are_well_formed (live n) ≡ true
  lists-tested = (well-formed n h).lists

  few_nodes : n.count ≤ capacity
  few_nodes = (well-formed n h).few_nodes

  few_messages : n.waiting ≤ queue_limit
  few_messages = (well-formed n h).few_messages

  pub same : held (live n) ≡ n
  same = held-live n l.nodes l.messages h

  below : (u : ℕ) → u < n.count → u < length (live n).nodes
  below u k = omega (arith, nodes-length n l h)

  known : (u : ℕ) → u < n.count → declared (live n) u ≡ true
  known u k = lt-ltb u (length (live n).nodes) (below u k)

  unknown : (u : ℕ) → n.count ≤ u → declared (live n) u ≡ false
  unknown u k = le-ltb u (length (live n).nodes) (omega (arith, nodes-length n l h))

  declared-read : (u : ℕ) → ltb u n.count ≡ declared (live n) u
  declared-read u = ap (ltb u) (sym (nodes-length n l h))

  waits : (i : ℕ) → i < n.waiting → i < length (live n).messages
  waits i k = omega (arith, messages-length n l h)

  addressee : (i : ℕ) → i < n.waiting → (message_at (live n) i).to < n.count
  addressee i k =
      let there = (message-taken (live n) i (waits i k)).waits in
      omega (arith, nodes-length n l h, declared-addressee (live n) lists (message_at (live n) i) there)

  -- ---- what is written are the lists so changed
  steps-outcome : (u : ℕ) (e : Effect) → u < n.count → n.waiting + length e.posts ≤ queue_limit
      → outcome n (stepping u e) ≡ counted (in_arrays (commit (live n) u (live n).messages e))
  unfolding committed
  steps-outcome u e k room =
      let small = lt-ltb u capacity (omega (arith, few_nodes)) in
      let fits = le-leb (n.waiting + length e.posts) queue_limit room in
      let network : all_posted (placed n u e.node) e.posts ≡ held (commit (live n) u (live n).messages e).state =
      ap (λ m. all_posted (placed m u e.node) e.posts) (sym same)
      ∙ stepped-held (live n).nodes (live n).messages u e.node e.posts (omega (arith, nodes-length n l h)) (omega (arith, messages-length n l h)) in
      rw (small, fits) (λ i. record { network = network i; posted = length e.posts; said = stepped e.said })

  delivers-outcome : (place u : ℕ) (e : Effect) → place < n.waiting → u < n.count → n.waiting - 1 + length e.posts ≤ queue_limit
      → outcome n (delivering place u e) ≡ counted (in_arrays (commit (live n) u (without place (live n).messages) e))
  unfolding committed
  delivers-outcome place u e there k room =
      let small = lt-ltb u capacity (omega (arith, few_nodes)) in
      let present = lt-ltb place n.waiting there in
      let within = le-leb n.waiting queue_limit few_messages in
      let fits = le-leb (n.waiting - 1 + length e.posts) queue_limit room in
      let few : length (live n).messages ≤ queue_limit = omega (arith, messages-length n l h, few_messages) in
      let network : all_posted (placed (closed n place) u e.node) e.posts ≡ held (commit (live n) u (without place (live n).messages) e).state =
      ap (λ m. all_posted (placed (closed m place) u e.node) e.posts) (sym same)
      ∙ ap (λ m. all_posted (placed m u e.node) e.posts) (closed-held (live n) place (waits place there) few)
      ∙ stepped-held (live n).nodes (without place (live n).messages) u e.node e.posts (omega (arith, nodes-length n l h))
      (omega (arith, messages-length n l h, length_without place (live n).messages (waits place there))) in
      rw (small, present, within, fits) (λ i. record { network = network i; posted = length e.posts; said = stepped e.said })

  adds-outcome : (key : ℕ) → n.count < capacity → outcome n (adding n.count key) ≡ counted (in_arrays (declaring (live n) key))
  unfolding committed
  adds-outcome key room =
      let number = sym (nodes-length n l h) in
      let network = ap (λ m. added m (declared_of key)) (sym same) ∙ added-held (live n) (declared_of key) (omega (arith, nodes-length n l h)) in
      rw (lt-ltb n.count capacity room) (λ i. record { network = network i; posted = 0; said = done (Declared (number i) key) })

  -- ---- tests that say what the rules say decide the call
  as-ruled : (call : Call) (o : Option Reason) (accepted : Decided) → o ≡ first (rules_of (live n) call)
      → (o ≡ None → outcome n accepted ≡ counted (in_arrays (effect_of (live n) call))) → outcome n (unless_refused o turned_away accepted) ≡ counted (apply_of n call)
  unfolding apply_of apply_to_lists committed
  as-ruled call None accepted says carried = carried refl ∙ rw (h, sym says)
  as-ruled call (Some r) accepted says carried = ap counted (sym (refused-here n l call r h (rw (sym says))))

  -- ---- each call
  decides-declare : (key : ℕ) → outcome n (decision_on n (Order (Declare key))) ≡ counted (apply_of n (Order (Declare key)))
  unfolding decision_on
  decides-declare key =
      as-ruled (Order (Declare key)) (first (declare_tests key n.count (key_is_taken_in n key))) (adding n.count key)
      (rw lists-tested (λ i. cond (not (in_range key)) (Some (plain 4)) (cond (not (ltb (sym (nodes-length n l h) i) capacity)) (Some (plain 20)) (cond (taken n key i) (Some (plain 21)) None))))
      (λ clear. let (_, (room, _)) = cleared (declare_tests key n.count (key_is_taken_in n key)) clear in adds-outcome key (tested-below n.count capacity room))

  module _ (u : ℕ) where
    abbrev found : Found
    found = record { taken = false; standing = some_stands n; notice = notice_waits_in n u }

    abbrev made : Effect
    made = create_of u (node_in n u)

    create-tests : unless (ltb u n.count) (first (create_tests found)) ≡ first (create_rules (live n) u)
    create-tests = unless-says (ltb u n.count) _ _ says absent
      where
        says : ltb u n.count ≡ true → first (create_tests found) ≡ first (create_rules (live n) u)
        says t = rw (lists-tested, known u (ltb-true u n.count t)) (λ i. cond (stands n i) (Some (plain 22)) (cond (notice_waits (live n) u) (Some (plain 25)) None))

        absent : ltb u n.count ≡ false → Some (plain 5) ≡ first (create_rules (live n) u)
        absent f = simp (lists-tested, sym (declared-read u) ∙ f)

    decides-create : outcome n (decision_on n (Order (Create u))) ≡ counted (apply_of n (Order (Create u)))
    unfolding decision_on
    decides-create =
        as-ruled (Order (Create u)) (unless (ltb u n.count) (first (create_tests found))) (stepping u made) create-tests
        (λ clear.
        let here = ltb-true u n.count (unless_known (ltb u n.count) _ clear).0 in
        steps-outcome u made here (omega (arith, create_posts u (node_in n u), few_messages))
        ∙ ap (λ (node : Node). counted (in_arrays (commit (live n) u (live n).messages (create_of u node)))) (node_read n l h u here))

  -- the step of a join is that of the list's nodes
  join-read : (u p q : ℕ) → u < n.count → p < n.count → q < n.count
      → join_step u p q (sight_of n (spots_of (Join u p q))) ≡ join_of u (node_at (live n) u) (peer_at (live n) p) (peer_at (live n) q)
  join-read u p q here left right =
      let neighbour : (v : ℕ) → v < n.count → record { number = v; key = (node_in n v).key } ≡ peer_at (live n) v =
      λ v k. ap (λ (node : Node). record { number = v; key = node.key }) (node_read n l h v k) in
      let sound = join-sound lists u p q (below u here) (below p left) (below q right) in
      (λ i. join_unchecked u (node_read n l h u here i) (neighbour p left i) (neighbour q right i)) ∙ join-tested u (node_at (live n) u) (peer_at (live n) p) (peer_at (live n) q) sound

  module _ (u p q : ℕ) where
    abbrev joined : Effect
    joined = join_step u p q (sight_of n (spots_of (Join u p q)))

    abbrev all_known : Bool
    all_known = ltb u n.count && (ltb p n.count && ltb q n.count)

    abbrev after_joining : Option Reason
    after_joining = after_step joined.said (first (room_tests n.waiting joined.posts))

    abbrev rest : Option Reason
    rest = unless_refused (first (before_joining (node_in n u) (notice_waits_in n u))) Some after_joining

    three : all_known ≡ true → (u < n.count) × (p < n.count) × (q < n.count)
    three t =
        let (a, bc) = both (ltb u n.count) _ t in
        let (b, c) = both (ltb p n.count) _ bc in
        (ltb-true _ _ a, ltb-true _ _ b, ltb-true _ _ c)

    join-tests : unless all_known rest ≡ first (join_rules (live n) u p q)
    join-tests = unless-says all_known _ _ says absent
      where
        says : all_known ≡ true → rest ≡ first (join_rules (live n) u p q)
        says t =
            let (here, left, right) = three t in
            let step = join-read u p q here left right in
            (λ i. unless_refused (first (before_joining (node_read n l h u here i) (notice_waits (live n) u))) Some (after_step (step i).said (first (room_tests (sym (messages-length n l h) i) (step i).posts))))
            ∙ join-says (live n) lists u p q (known u here) (known p left) (known q right)

        absent : all_known ≡ false → Some (plain 5) ≡ first (join_rules (live n) u p q)
        absent f = sym (rw lists-tested (some_undeclared (declared (live n) u) (declared (live n) p) (declared (live n) q) _ (rw (sym (nodes-length n l h)) at f)))

    decides-join : outcome n (decision_on n (Order (Join u p q))) ≡ counted (apply_of n (Order (Join u p q)))
    unfolding decision_on
    decides-join =
        as-ruled (Order (Join u p q)) (unless all_known rest) (stepping u joined) join-tests
        (λ clear.
        let (all, tested) = unless_known all_known rest clear in
        let (here, left, right) = three all in
        let after = rest_cleared (before_joining (node_in n u) (notice_waits_in n u)) tested in
        let room = after-cleared joined.said (first (room_tests n.waiting joined.posts)) after in
        steps-outcome u joined here (room-cleared n.waiting joined.posts room)
        ∙ ap (λ e. counted (in_arrays (commit (live n) u (live n).messages e))) (join-read u p q here left right))

  module _ (u : ℕ) where
    abbrev left : Effect
    left = leave_unchecked u (node_in n u)

    -- the step of a leave is that of the list's node
    leave-read : u < n.count → leave_unchecked u (node_at (live n) u) ≡ leave_of u (node_at (live n) u)
    leave-read here = leave-tested u (node_at (live n) u) (ap not (node-sound lists u (below u here)))

    leave-tests : leave_tests u n.count n.waiting (node_in n u) ≡ first (leave_rules (live n) u)
    leave-tests = unless-says (ltb u n.count) _ _ says absent
      where
        says : ltb u n.count ≡ true → after_step left.said (first (room_tests n.waiting left.posts)) ≡ first (leave_rules (live n) u)
        says t =
            let here = ltb-true u n.count t in
            (λ i. after_step (leave_unchecked u (node_read n l h u here i)).said (first (room_tests (sym (messages-length n l h) i) (leave_unchecked u (node_read n l h u here i)).posts)))
            ∙ (λ i. after_step (leave-read here i).said (first (room_tests (length (live n).messages) (leave-read here i).posts)))
            ∙ leave-says (live n) lists u (known u here)

        absent : ltb u n.count ≡ false → Some (plain 5) ≡ first (leave_rules (live n) u)
        absent f = simp (lists-tested, sym (declared-read u) ∙ f)

    decides-leave : outcome n (decision_on n (Order (Leave u))) ≡ counted (apply_of n (Order (Leave u)))
    unfolding decision_on
    decides-leave =
        as-ruled (Order (Leave u)) (leave_tests u n.count n.waiting (node_in n u)) (stepping u left) leave-tests
        (λ clear.
        let (t, after) = unless_known (ltb u n.count) (after_step left.said (first (room_tests n.waiting left.posts))) clear in
        let here = ltb-true u n.count t in
        steps-outcome u left here (room-cleared n.waiting left.posts (after-cleared left.said (first (room_tests n.waiting left.posts)) after))
        ∙ ap (λ (node : Node). counted (in_arrays (commit (live n) u (live n).messages (leave_unchecked u node)))) (node_read n l h u here)
        ∙ ap (λ (e : Effect). counted (in_arrays (commit (live n) u (live n).messages e))) (leave-read here))

  module _ (place : ℕ) where
    abbrev arrival : Arrival
    arrival = arrival_of n place

    abbrev received : Effect
    received = receive_step arrival

    -- what the node that the message is for does with it: the tests of its own that a step begins
    -- with are passed
    received-read : place < n.waiting → received ≡ receiving (live n) (message_at (live n) place)
    received-read there =
        ap (λ (m : Message). act_of m.to (node_in n m.to) m.sender m.kind) (message-live n l h place there)
        ∙ ap (λ (node : Node). act_of (message_at (live n) place).to node (message_at (live n) place).sender (message_at (live n) place).kind) (node_read n l h (message_at (live n) place).to (addressee place there))
        ∙ sym (received-acts (live n) lists (message_at (live n) place) (message-taken (live n) place (waits place there)).waits)

    deliver-tests : first (deliver_tests place arrival) ≡ first (deliver_rules (live n) place)
    deliver-tests = ⊎_elim present absent (decided (ltb place n.waiting))
      where
        present : ltb place n.waiting ≡ true → first (deliver_tests place arrival) ≡ first (deliver_rules (live n) place)
        present t =
            let there = ltb-true place n.waiting t in
            rw t
            ((λ i. first (room_tests (sym (messages-length n l h) i - 1) (received-read there i).posts)) ∙ deliver-says (live n) lists place (waits place there))

        absent : ltb place n.waiting ≡ false → first (deliver_tests place arrival) ≡ first (deliver_rules (live n) place)
        absent f =
            let gone : ltb place (length (live n).messages) ≡ false = ap (ltb place) (messages-length n l h) ∙ f in
            rw f (sym (simp (lists-tested, gone, and-false)))

    decides-deliver : outcome n (decision_on n (Deliver place)) ≡ counted (apply_of n (Deliver place))
    unfolding decision_on
    decides-deliver =
        as-ruled (Deliver place) (first (deliver_tests place arrival)) (delivering place arrival.message.to received) deliver-tests
        (λ clear.
        let (waiting, (room, _)) = cleared (deliver_tests place arrival) clear in
        let there = tested-below place n.waiting waiting in
        let to : arrival.message.to ≡ (message_at (live n) place).to = ap (λ (m : Message). m.to) (message-live n l h place there) in
        delivers-outcome place arrival.message.to received there (rw to (addressee place there)) (leb-true _ _ (not-false _ room))
        ∙ (λ i. counted (in_arrays (commit (live n) (to i) (without place (live n).messages) (received-read there i)))))

  -- ---- any call
  pub decides : (call : Call) → outcome n (decision_on n call) ≡ counted (apply_of n call)
  decides (Order (Declare key)) = decides-declare key
  decides (Order (Create u)) = decides-create u
  decides (Order (Join u p q)) = decides-join u p q
  decides (Order (Leave u)) = decides-leave u
  decides (Deliver place) = decides-deliver place

  -- ---- a delivery where a message waits is refused only where the queue is full and the message
  -- would be granted
  module _ (place : ℕ) (there : place < n.waiting) where
    abbrev grantable : Bool
    grantable = would_grant (arrival_of n place).node (arrival_of n place).message.sender (arrival_of n place).message.kind

    grantable-read : grantable ≡ is_grantable (live n) place
    grantable-read =
        ap (λ (m : Message). would_grant (node_in n m.to) m.sender m.kind) (message-live n l h place there)
        ∙ ap (λ (node : Node). would_grant node (message_at (live n) place).sender (message_at (live n) place).kind) (node_read n l h (message_at (live n) place).to (addressee place there))

    rules-read : first (deliver_rules (live n) place) ≡ cond (not (ltb n.waiting queue_limit) && grantable) (Some (plain 28)) None
    rules-read =
        let present : ltb place (length (live n).messages) ≡ true = lt-ltb place (length (live n).messages) (waits place there) in
        rw (lists-tested, present, sym grantable-read, messages-length n l h)

    pub delivers-here : (ltb n.waiting queue_limit || not grantable) ≡ accepted (apply_to_lists (live n) (Deliver place)).said
    unfolding apply_to_lists
    delivers-here = go (ltb n.waiting queue_limit) grantable rules-read
      where
        clear : first (deliver_rules (live n) place) ≡ None → true ≡ accepted (apply_to_lists (live n) (Deliver place)).said
        clear e = sym (rw e (is_true _ (accepted-said (accepted_case (live n) (Deliver place) e))))

        barred : first (deliver_rules (live n) place) ≡ Some (plain 28) → false ≡ accepted (apply_to_lists (live n) (Deliver place)).said
        barred e = rw e

        go : (room grants : Bool) → first (deliver_rules (live n) place) ≡ cond (not room && grants) (Some (plain 28)) None → (room || not grants) ≡ accepted (apply_to_lists (live n) (Deliver place)).said
        go true grants e = clear e
        go false true e = barred e
        go false false e = clear e
