use Rattle.std.proofs.Common.{◌∙◌, List, subst, sym}
use Rattle.kdg_graph.proofs.Common.{Node, IsGraph, NodeShelf}
use Rattle.kdg_graph.proofs.Searches.{found_at_id, unfiled_found}
use Rattle.kdg_graph.proofs.ordered_nodes.OrderedNodes.take_from.Goals as goal
use Rattle.kdg_graph.specs.NodeLaws.{found_node}

pub returns-then-starts_with-clause-ids : goal.returns-then-starts_with-clause-ids
returns-then-starts_with-clause-ids c some among =
    let nodes : List Node = c.args.self.now.nodes in
    let held = found_node nodes c.args.id c.requires in
    let node : Node = held.0 in
    let graph : IsGraph nodes = subst (λ (shelf : NodeShelf). IsGraph shelf.nodes) c.self.view_is c.self.invariant.graph in
    let found = found_at_id nodes some c.args.lane.now.ids.items c.args.id node 0 graph among held.1 (sym c.starts_with.ensures ∙ c.if-starts_with.true) in
    c.remove.ensures.ids ∙ unfiled_found nodes some c.args.lane.now.ids.items c.args.id node 0 graph among held.1 found
