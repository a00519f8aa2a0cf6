use Rattle.std.proofs.Common.{◌≡◌, ◌<◌, ◌∙◌, ◌++◌, ◌||◌, [], IsPermutation, List, ap, arith, drop, length, subst, sym, take}
use Rattle.kdg_graph.proofs.Common.{AllByRecursion, AreInTurn, AreMarked, AreSome, Arrival, HasGone, HasNode, HaveMarks, IsInOrder, MarkedIds, Node, NodeId, Standing, TellsItsKey, arrived, has_number, listed_in, recent_among, recent_in, settled_among, settled_in}
use Rattle.kdg_graph.proofs.Listed.{all_placed}
use Rattle.kdg_graph.proofs.Marks.{all_settled, as_marked, moved_marked, moved_numbers, moved_there, written_back}
use Rattle.kdg_graph.proofs.source_lane.SourceLane.settle_arrivals.Goals as goal

-- ---- once those that came are sorted

sorted : (c : goal.After-put_in_order-arg-2-1) → take c.self.inside.arrivals.len (c.order_arrivals.new.arrivals ++ drop (length c.order_arrivals.new.arrivals) c.self.inside.arrivals.items) ≡ c.order_arrivals.new.arrivals
sorted c = written_back c.order_arrivals.new.arrivals c.self.inside.arrivals.items c.self.inside.arrivals.len (omega (arith, c.self.inside.arrivals.ok.0)) (omega (arith, c.order_arrivals.auto.arrivals, ap length c.deref_mut.ensures.value))

moved : (c : goal.After-put_in_order-arg-2-1) → IsPermutation (arrived c.self.inside.arrivals.items) (arrived c.order_arrivals.new.arrivals)
moved c = subst (λ (l : List Arrival). IsPermutation (arrived l) (arrived c.order_arrivals.new.arrivals)) c.deref_mut.ensures.value c.order_arrivals.ensures.moved

all_in_order : (c : goal.After-put_in_order-arg-2-1) → settled_among c.self.inside.standings.items c.self.inside.settled.ids.items ≡ c.self.inside.settled.ids.items
all_in_order c = subst (λ (m : MarkedIds). settled_in m ≡ m.entries) (sym c.self.view_is) c.requires.none_gone

pub put_in_order-requires-clause-there : goal.put_in_order-requires-clause-there
put_in_order-requires-clause-there c =
    let some = subst (AreSome c.args.nodes.now.nodes) (sym c.self.view_is) c.requires.some in
    let P : List Standing → List Arrival → Type 0 = λ st l. AllByRecursion (λ (a : Arrival). HasNode c.args.nodes.now.nodes a.id) (recent_among st l) in
    subst (P c.deref_mut-2.result.now) (sym (sorted c)) (subst (λ (st : List Standing). P st c.order_arrivals.new.arrivals) (sym c.deref_mut-2.ensures.value) (moved_there c.args.nodes.now.nodes c.self.inside.standings.items c.self.inside.arrivals.items c.order_arrivals.new.arrivals (moved c) some.recent))

pub put_in_order-requires-clause-told : goal.put_in_order-requires-clause-told
put_in_order-requires-clause-told c = subst (λ (l : List Arrival). 1 < length l → AllByRecursion (TellsItsKey c.args.nodes.now.nodes) l) (sym (sorted c)) c.order_arrivals.ensures.told

pub put_in_order-requires-clause-in_turn : goal.put_in_order-requires-clause-in_turn
put_in_order-requires-clause-in_turn c = subst (AreInTurn c.args.nodes.now.nodes) (sym (sorted c)) c.order_arrivals.ensures.in_turn

pub put_in_order-requires-clause-in_order : goal.put_in_order-requires-clause-in_order
put_in_order-requires-clause-in_order c =
    let some = subst (AreSome c.args.nodes.now.nodes) (sym c.self.view_is) c.requires.some in
    subst (IsInOrder c.args.nodes.now.nodes) (all_in_order c) some.in_order

marked : (c : goal.After-put_in_order-arg-2-1) → AreMarked c.self.inside.settled.ids.items (recent_among c.self.inside.standings.items c.order_arrivals.new.arrivals) c.self.inside.standings.items
marked c =
    moved_marked c.self.inside.standings.items c.self.inside.settled.ids.items c.self.inside.arrivals.items c.order_arrivals.new.arrivals (moved c) (subst (λ (l : List NodeId). AreMarked l (recent_among c.self.inside.standings.items c.self.inside.arrivals.items) c.self.inside.standings.items) (all_in_order c) c.self.invariant.0)

pub put_in_order-requires-clause-marked : goal.put_in_order-requires-clause-marked
put_in_order-requires-clause-marked c =
    subst (λ (l : List Arrival). AreMarked c.self.inside.settled.ids.items (recent_among c.deref_mut-2.result.now l) c.deref_mut-2.result.now) (sym (sorted c)) (subst (λ (st : List Standing). AreMarked c.self.inside.settled.ids.items (recent_among st c.order_arrivals.new.arrivals) st) (sym c.deref_mut-2.ensures.value) (marked c))

-- ---- once they are in order with the others

abbrev put : (c : goal.After-self-2-1) → MarkedIds
put c = record { entries = c.put_in_order.new.settled.ids.items; arrivals = []; standings = c.put_in_order.new.standings; room = c.put_in_order.new.settled.ids.capacity }

put_is : (c : goal.After-self-2-1)
    → (record {
      entries = c.put_in_order.new.settled.ids.items;
      arrivals = c.put_in_order.new.arrivals.items;
      standings = take c.self.inside.standings.len (c.put_in_order.new.standings ++ drop (length c.put_in_order.new.standings) c.self.inside.standings.items);
      room = c.put_in_order.new.settled.ids.capacity;
    }) ≡ put c
put_is c =
    let written = written_back c.put_in_order.new.standings c.self.inside.standings.items c.self.inside.standings.len (omega (arith, c.self.inside.standings.ok.0)) (c.put_in_order.ensures.marks ∙ ap length c.deref_mut-2.ensures.value) in
    λ i. record { entries = c.put_in_order.new.settled.ids.items; arrivals = c.put_in_order.ensures.none_left i; standings = written i; room = c.put_in_order.new.settled.ids.capacity }

all_put : (c : goal.After-self-2-1) → settled_in (put c) ≡ c.put_in_order.new.settled.ids.items
all_put c = all_settled c.put_in_order.new.standings c.put_in_order.new.settled.ids.items c.put_in_order.ensures.marked.are_settled

pub invariant_of-self : goal.invariant_of-self
invariant_of-self c =
    let all : settled_among c.self.inside.standings.items c.self.inside.settled.ids.items ≡ c.self.inside.settled.ids.items = subst (λ (m : MarkedIds). settled_in m ≡ m.entries) (sym c.self.view_is) c.requires.none_gone in
    subst (λ (m : MarkedIds). AreMarked (settled_in m) (recent_in m) m.standings × HasGone m.standings m.entries c.self.inside.gone) (sym (put_is c)) (as_marked c.put_in_order.new.settled.ids.items c.put_in_order.new.standings c.put_in_order.ensures.marked, omega (arith, c.self.invariant.1, ap length all, ap length (all_put c)))

pub returns-clause-none_gone : goal.returns-clause-none_gone
returns-clause-none_gone c = subst (λ (m : MarkedIds). settled_in m ≡ m.entries) (sym (put_is c)) (all_put c)

pub returns-clause-listed : goal.returns-clause-listed
returns-clause-listed c =
    let sorted_is = written_back c.order_arrivals.new.arrivals c.self.inside.arrivals.items c.self.inside.arrivals.len (omega (arith, c.self.inside.arrivals.ok.0)) (omega (arith, c.order_arrivals.auto.arrivals, ap length c.deref_mut.ensures.value)) in
    let moved_is = subst (λ (l : List Arrival). IsPermutation (arrived l) (arrived c.order_arrivals.new.arrivals)) c.deref_mut.ensures.value c.order_arrivals.ensures.moved in
    let was : settled_in c.args.self.now ≡ c.self.inside.settled.ids.items = c.requires.none_gone ∙ ap (λ (m : MarkedIds). m.entries) (sym c.self.view_is) in
    ap (listed_in c.args.nodes.now.nodes) (put_is c)
    ∙ all_placed c.args.nodes.now.nodes c.args.self.now (settled_in (put c)) (λ at.
    ap (has_number at) (all_put c)
    ∙ c.put_in_order.ensures.ids at
    ∙ (λ i. has_number at (sym was i) || has_number at (arrived (recent_among (c.deref_mut-2.ensures.value i) (sorted_is i))))
    ∙ ap (λ b. has_number at (settled_in c.args.self.now) || b) (moved_numbers c.self.inside.standings.items c.self.inside.arrivals.items c.order_arrivals.new.arrivals moved_is at ∙ ap (λ (m : MarkedIds). has_number at (arrived (recent_in m))) c.self.view_is))

pub returns-clause-some : goal.returns-clause-some
returns-clause-some c =
    let nodes : List Node = c.args.nodes.now.nodes in
    let some = subst (AreSome nodes) (sym c.self.view_is) c.requires.some in
    subst (AreSome nodes) (sym (put_is c)) (record {
      in_order = subst (IsInOrder nodes) (sym (all_put c)) c.put_in_order.ensures.in_order;
      recent = tt;
      room = omega (arith, some.room, c.put_in_order.ensures.room);
      marks = subst (HaveMarks nodes) (sym (c.put_in_order.ensures.marks ∙ ap length c.deref_mut-2.ensures.value)) some.marks;
    })
