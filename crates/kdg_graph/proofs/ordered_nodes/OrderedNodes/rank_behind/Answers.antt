use Rattle.std.proofs.Common.{◌≡◌, ◌+◌, ◌<◌, ◌∙◌, add-one, arith, length, Option, Some, ap, subst, sym, IfSome}
use Rattle.kdg_graph.proofs.Common.{IsRankPast, IsLaneAmong, Node, node_at, NodeShelf}
use Rattle.kdg_graph.proofs.Lanes.{lane_of_among}
use Rattle.kdg_graph.proofs.Searches.{found_at_id, inside_at, past_found}
use Rattle.kdg_graph.proofs.ordered_nodes.OrderedNodes.rank_behind.Goals as goal
use Rattle.kdg_graph.specs.NodeLaws.{found_node}

pub overflow_add-result : goal.overflow_add-result
overflow_add-result c =
    let inside : c.in-Some.place < length c.args.lane.now.ids.items = inside_at c.args.lane.now.ids.items c.in-Some.place c.args.id c.in-Some.ensures in
    omega (arith, inside, c.len-small.ensures.len, c.len-small.ensures.small)

pub returns-in-Some-clause-rank : goal.returns-in-Some-clause-rank
returns-in-Some-clause-rank c some among =
    let held = found_node c.args.self.now.nodes c.args.id c.requires in
    let found = found_at_id c.args.self.now.nodes some c.args.lane.now.ids.items c.args.id held.0 c.in-Some.place c.len-graph.ensures.graph among held.1 c.in-Some.ensures in
    subst (λ (o : Option Node). IfSome o (λ (n : Node). IsRankPast n.task.key some (c.in-Some.place + 1))) (sym held.1) (rw add-one (past_found held.0.task.key some c.in-Some.place among.ascending found))

pub returns-in-Some-clause-inside : goal.returns-in-Some-clause-inside
returns-in-Some-clause-inside c =
    let inside : c.in-Some.place < length c.args.lane.now.ids.items = inside_at c.args.lane.now.ids.items c.in-Some.place c.args.id c.in-Some.ensures in
    omega (arith, inside)

pub returns-clause-rank : goal.returns-clause-rank
returns-clause-rank c some among =
    let node : Node = record { id = c.node.inside.id; task = c.node.inside.task; set = c.node.inside.set; running = c.node.inside.running } in
    let is : node_at c.args.self.now.nodes c.args.id ≡ Some node = c.entry-node.ensures ∙ ap (λ (n : Node). Some n) (sym c.node.view_is) in
    subst (λ (o : Option Node). IfSome o (λ (n : Node). IsRankPast n.task.key some c.rank_past.result)) (sym is)
    (c.rank_past.ensures.rank some (lane_of_among c.self.inside.slots c.args.lane.now.ids.items some c.self.invariant (subst (λ (shelf : NodeShelf). IsLaneAmong shelf.nodes some c.args.lane.now.ids.items) (sym c.self.view_is) among)))
