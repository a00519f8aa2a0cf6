use Rattle.std.proofs.Common.{◌≡◌, ◌∙◌, ◌∷◌, [], ◌<◌, ℕ, true, false, List, ap, arith, length, set, subst, sym}
use Rattle.kdg_graph.proofs.Common.{AreMarked, AreRetested, AreSome, Arrival, HasGone, IsInOrder, MarkedIds, Node, NodeId, Settled, Standing, has_number, listed_in, recent_among, settled_among, settled_in}
use Rattle.kdg_graph.proofs.Listed.{has_mark, room_for_one}
use Rattle.kdg_graph.proofs.Marks.{all_settled, as_marked, marked_placed, placed, still_absent}
use Rattle.kdg_graph.proofs.source_lane.SourceLane.list_at_once.Goals as goal

pub put_into-requires-clause-room : goal.put_into-requires-clause-room
put_into-requires-clause-room c =
    let nodes : List Node = c.args.nodes.now.nodes in
    let entries : List NodeId = c.self.inside.settled.ids.items in
    let some = subst (AreSome nodes) (sym c.self.view_is) c.settle.ensures.some in
    let all : settled_among c.self.inside.standings.items entries ≡ entries = subst (λ (m : MarkedIds). settled_in m ≡ m.entries) (sym c.self.view_is) c.settle.ensures.none_gone in
    let absent : has_number c.args.id.at entries ≡ false = ap (λ (m : MarkedIds). has_number c.args.id.at m.entries) c.self.view_is
    ∙ still_absent nodes c.args.self.now c.settle.new.self c.args.id c.requires.graph c.requires.there c.settle.ensures.listed c.requires.absent c.settle.ensures.none_gone in
    room_for_one nodes c.args.id entries c.self.inside.settled.ids.capacity c.requires.graph c.requires.there (subst (IsInOrder nodes) all some.in_order) absent some.room

pub index_mut-requires : goal.index_mut-requires
index_mut-requires c =
    let some = subst (AreSome c.args.nodes.now.nodes) (sym c.self.view_is) c.settle.ensures.some in
    omega (arith, c.self.inside.standings.ok.0, has_mark c.args.nodes.now.nodes c.args.id (length c.self.inside.standings.items) c.requires.there some.marks)

pub invariant_of-self : goal.invariant_of-self
invariant_of-self c =
    let entries : List NodeId = c.self.inside.settled.ids.items in
    let ids : List NodeId = c.put_into.new.lane.ids.items in
    let standings : List Standing = c.self.inside.standings.items in
    let now : List Standing = set standings c.args.id.at Settled in
    let some = subst (AreSome c.args.nodes.now.nodes) (sym c.self.view_is) c.settle.ensures.some in
    let all : settled_among standings entries ≡ entries = subst (λ (m : MarkedIds). settled_in m ≡ m.entries) (sym c.self.view_is) c.settle.ensures.none_gone in
    let none : c.self.inside.arrivals.items ≡ [] = ap (λ (m : MarkedIds). m.arrivals) c.self.view_is ∙ c.settle.ensures.none_came in
    let inside : c.args.id.at < length standings = has_mark c.args.nodes.now.nodes c.args.id (length standings) c.requires.there some.marks in
    let marked : AreMarked (settled_among standings entries) [] standings = subst (λ (l : List Arrival). AreMarked (settled_among standings entries) (recent_among standings l) standings) none c.self.invariant.0 in
    let told : AreMarked ids [] now = marked_placed c.args.nodes.now.nodes standings entries ids c.args.id c.requires.graph c.requires.there inside marked all some.in_order c.put_into.ensures.ids in
    let few : HasGone now ids c.self.inside.gone = omega (arith, c.self.invariant.1, ap length all, ap length (all_settled now ids told.are_settled)) in
    let kept : AreMarked (settled_among now ids) (recent_among now c.self.inside.arrivals.items) now = subst (λ (l : List Arrival). AreMarked (settled_among now ids) (recent_among now l) now) (sym none) (as_marked ids now told) in
    (kept, few)

pub returns : goal.returns
returns c =
    let nodes : List Node = c.args.nodes.now.nodes in
    let id : NodeId = c.args.id in
    let entries : List NodeId = c.self.inside.settled.ids.items in
    let ids : List NodeId = c.put_into.new.lane.ids.items in
    let standings : List Standing = c.self.inside.standings.items in
    let room : ℕ = c.self.inside.settled.ids.capacity in
    let none : c.self.inside.arrivals.items ≡ [] = ap (λ (m : MarkedIds). m.arrivals) c.self.view_is ∙ c.settle.ensures.none_came in
    let some = subst (AreSome nodes) (sym c.self.view_is) c.settle.ensures.some in
    let alone : AreSome nodes (record { entries = entries; arrivals = []; standings = standings; room = room }) = subst (λ (l : List Arrival). AreSome nodes (record { entries = entries; arrivals = l; standings = standings; room = room })) none some in
    let all : settled_among standings entries ≡ entries = subst (λ (m : MarkedIds). settled_in m ≡ m.entries) (sym c.self.view_is) c.settle.ensures.none_gone in
    let marked : AreMarked (settled_among standings entries) [] standings = subst (λ (l : List Arrival). AreMarked (settled_among standings entries) (recent_among standings l) standings) none c.self.invariant.0 in
    let absent : has_number id.at entries ≡ false = ap (λ (m : MarkedIds). has_number id.at m.entries) c.self.view_is
    ∙ still_absent nodes c.args.self.now c.settle.new.self id c.requires.graph c.requires.there c.settle.ensures.listed c.requires.absent c.settle.ensures.none_gone in
    let done = placed nodes standings entries ids id room c.put_into.new.lane.ids.capacity c.requires.graph c.requires.there alone marked all absent c.put_into.ensures.ids c.put_into.ensures.room in
    let listed = ap (λ (l : List Arrival). listed_in nodes (record { entries = entries; arrivals = l; standings = standings; room = room })) (sym none) ∙ ap (listed_in nodes) c.self.view_is ∙ c.settle.ensures.listed in
    let whole : AreRetested nodes (λ _. true) (id ∷ []) c.args.self.now (record { entries = ids; arrivals = []; standings = set standings id.at Settled; room = c.put_into.new.lane.ids.capacity }) = record {
      ids = λ test was. done.ids test (listed ∙ was);
      some = done.some;
      room = omega (arith, c.settle.ensures.room, ap (λ (m : MarkedIds). m.room) c.self.view_is, c.put_into.ensures.room);
      marks = done.marks ∙ ap (λ (m : MarkedIds). length m.standings) c.self.view_is ∙ c.settle.ensures.marks;
    } in
    subst (λ (l : List Arrival). AreRetested nodes (λ _. true) (id ∷ []) c.args.self.now (record { entries = ids; arrivals = l; standings = set standings id.at Settled; room = c.put_into.new.lane.ids.capacity })) (sym none) whole
