use Rattle.std.proofs.Common.{◌≡◌, ◌∙◌, ◌++◌, ◌&&◌, Bool, List, Some, true, false, ap, append-nil, arith, get_or, sym, take, filter, take_all}
use Rattle.plain_laws.specs.Options.{if_some_at}
use Rattle.kdg_graph.proofs.Common.{Absent, Arrival, NodeId, Node, is_at, least_of, node_at, MarkedIds, arrived, is_behind, is_left, is_recent, recent_among, settled_in}
use Rattle.kdg_graph.proofs.Lanes.{graph_among}
use Rattle.kdg_graph.proofs.Left.{arrival_there, arrived_more, arrived_no_more, least_there, none_more, one_more, only_at}
use Rattle.kdg_graph.proofs.source_lane.SourceLane.earliest.Goals.{then-is_behind, else-is_behind}
use Rattle.kdg_graph.proofs.source_lane.SourceLane.earliest.Goals as goal
use Rattle.kdg_graph.specs.NodeLaws.{found_node}

abbrev blank : Arrival
blank = record { prio = 0; beginning = 0; id = record { at = 0 } }

abbrev arrivals_of : MarkedIds → List Arrival
arrivals_of some = some.arrivals

pub loop-arrival-init : goal.loop-arrival-init
loop-arrival-init c =
    c.requires.settled ∙ ap (λ (ids : List NodeId). least_of (filter (is_left c.args.nodes.now.nodes ids c.args.last) c.args.nodes.now.nodes)) (sym (append-nil (settled_in c.args.self.now)))

pub loop-arrival-preserved-then-not-is_waiting : goal.loop-arrival-preserved-then-not-is_waiting
loop-arrival-preserved-then-not-is_waiting c =
    let other : is_recent (get_or c.args.self.now.standings (get_or c.deref-arrival-items.result.now c.loop-arrival.arrival-index blank).id.at Absent) ≡ false = sym c.is_waiting.ensures ∙ c.if-not-is_waiting.true in
    c.loop-arrival.invariant
    ∙ ap (λ (recent : List Arrival). least_of (filter (is_left c.args.nodes.now.nodes (settled_in c.args.self.now ++ arrived recent) c.args.last) c.args.nodes.now.nodes)) (sym (arrived_no_more c.args.self.now.standings c.deref-arrival-items.result.now c.loop-arrival.arrival-index blank c.loop-arrival-test.true other))

pub is_behind-requires-clause-there : goal.is_behind-requires-clause-there
is_behind-requires-clause-there c =
    arrival_there c.args.nodes.now.nodes c.args.self.now c.deref-arrival-items.result.now c.loop-arrival.arrival-index blank c.requires.some (c.deref-arrival-items.ensures.value ∙ ap arrivals_of c.self.view_is) c.loop-arrival-test.true (sym c.is_waiting.ensures ∙ c.if-not-is_waiting.false)

pub earlier-first-requires-clause-one : goal.earlier-first-requires-clause-one
earlier-first-requires-clause-one c =
    least_there c.args.nodes.now.nodes (is_left c.args.nodes.now.nodes (settled_in c.args.self.now ++ arrived (recent_among c.args.self.now.standings (take c.loop-arrival.arrival-index c.deref-arrival-items.result.now))) c.args.last) c.loop-arrival.first c.requires.graph c.loop-arrival.invariant

pub earlier-first-requires-clause-other : goal.earlier-first-requires-clause-other
earlier-first-requires-clause-other c =
    arrival_there c.args.nodes.now.nodes c.args.self.now c.deref-arrival-items.result.now c.loop-arrival.arrival-index blank c.requires.some (c.deref-arrival-items.ensures.value ∙ ap arrivals_of c.self.view_is) c.loop-arrival-test.true (sym c.is_waiting.ensures ∙ c.if-not-is_waiting.false)

pub loop-arrival-preserved : goal.loop-arrival-preserved
loop-arrival-preserved c =
    let nodes : List Node = c.args.nodes.now.nodes in
    let items : List Arrival = c.deref-arrival-items.result.now in
    let i = c.loop-arrival.arrival-index in
    let id : NodeId = (get_or items i blank).id in
    let marked : is_recent (get_or c.args.self.now.standings id.at Absent) ≡ true = sym c.is_waiting.ensures ∙ c.if-not-is_waiting.false in
    let before : List NodeId = settled_in c.args.self.now ++ arrived (recent_among c.args.self.now.standings (take i items)) in
    let left : Node → Bool = is_left nodes before c.args.last in
    let came : Node → Bool = λ node. is_at id node && is_behind nodes c.args.last node in
    let there = arrival_there nodes c.args.self.now items i blank c.requires.some (c.deref-arrival-items.ensures.value ∙ ap arrivals_of c.self.view_is) c.loop-arrival-test.true marked in
    let found : (node : Node) × (node_at nodes id ≡ Some node) = found_node nodes id there in
    let test : c.is_behind.result ≡ is_behind nodes c.args.last found.0 = if_some_at (λ (node : Node). c.is_behind.result ≡ is_behind nodes c.args.last node) (node_at nodes id) found.0 found.1 c.is_behind.ensures in
    let more = ap (λ (ids : List NodeId). least_of (filter (is_left nodes ids c.args.last) nodes)) (sym (arrived_more (settled_in c.args.self.now) c.args.self.now.standings items i blank c.loop-arrival-test.true marked)) in
    elim c.if-is_behind.branch [
      | then-is_behind w ↦
          let first = w.earlier-first.ensures nodes left came (graph_among nodes c.requires.graph) c.loop-arrival.invariant (only_at nodes id found.0 (is_behind nodes c.args.last) found.1 (sym test ∙ w.if-is_behind.true)) in
          w.first-is ∙ first ∙ ap least_of (one_more nodes before c.args.last id) ∙ more
      | else-is_behind w ↦ w.first-is ∙ c.loop-arrival.invariant ∙ ap least_of (none_more nodes before c.args.last id found.0 c.requires.graph found.1 (sym test ∙ w.if-is_behind.false)) ∙ more
    ]

pub returns : goal.returns
returns c =
    c.loop-arrival.invariant
    ∙ ap (λ (arrivals : List Arrival). least_of (filter (is_left c.args.nodes.now.nodes (settled_in c.args.self.now ++ arrived (recent_among c.args.self.now.standings arrivals)) c.args.last) c.args.nodes.now.nodes))
    (take_all c.loop-arrival.arrival-index c.deref-arrival-items.result.now (omega (arith, c.loop-arrival-test.false)) ∙ c.deref-arrival-items.ensures.value ∙ ap arrivals_of c.self.view_is)
