use Rattle.std.proofs.Common.{◌≡◌, ◌∙◌, Ok, Option, Some, ap, subst, sym, IfSome}
use Rattle.kdg_graph.proofs.Common.{IsSearched, IsLaneAmong, Node, node_at, NodeShelf}
use Rattle.kdg_graph.proofs.Lanes.{lane_of_among}
use Rattle.kdg_graph.proofs.Searches.{found_at_id, inside_at}
use Rattle.kdg_graph.proofs.ordered_nodes.OrderedNodes.place_among.Goals as goal
use Rattle.kdg_graph.specs.NodeLaws.{found_node}

pub returns-in-Some-clause-found : goal.returns-in-Some-clause-found
returns-in-Some-clause-found c some among =
    let held = found_node c.args.self.now.nodes c.args.id c.requires in
    subst (λ (o : Option Node). IfSome o (λ (n : Node). IsSearched n.task.key some (Ok c.in-Some.place))) (sym held.1) (found_at_id c.args.self.now.nodes some c.args.lane.now.ids.items c.args.id held.0 c.in-Some.place c.len-graph.ensures.graph among held.1 c.in-Some.ensures)

pub returns-in-Some-clause-inside : goal.returns-in-Some-clause-inside
returns-in-Some-clause-inside c = inside_at c.args.lane.now.ids.items c.in-Some.place c.args.id c.in-Some.ensures

pub returns-clause-found : goal.returns-clause-found
returns-clause-found c some among =
    let node : Node = record { id = c.node.inside.id; task = c.node.inside.task; set = c.node.inside.set; running = c.node.inside.running } in
    let is : node_at c.args.self.now.nodes c.args.id ≡ Some node = c.entry-node.ensures ∙ ap (λ (n : Node). Some n) (sym c.node.view_is) in
    subst (λ (o : Option Node). IfSome o (λ (n : Node). IsSearched n.task.key some c.search.result)) (sym is)
    (c.search.ensures.found some (lane_of_among c.self.inside.slots c.args.lane.now.ids.items some c.self.invariant (subst (λ (shelf : NodeShelf). IsLaneAmong shelf.nodes some c.args.lane.now.ids.items) (sym c.self.view_is) among)))
