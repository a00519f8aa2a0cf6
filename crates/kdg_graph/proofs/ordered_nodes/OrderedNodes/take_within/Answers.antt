use Rattle.std.proofs.Common.{◌∙◌, Option, subst, IfSome}
use Rattle.kdg_graph.proofs.Common.{IsFound, IsGap, Node}
use Rattle.kdg_graph.proofs.Lanes.{not_filed}
use Rattle.kdg_graph.proofs.Searches.{id_apart, unfiled_found}
use Rattle.kdg_graph.proofs.ordered_nodes.OrderedNodes.take_within.Goals as goal
use Rattle.kdg_graph.specs.NodeLaws.{found_node}

pub returns-clause-ids : goal.returns-clause-ids
returns-clause-ids c some among =
    let held = found_node c.args.self.now.nodes c.args.id c.requires in
    let node : Node = held.0 in
    let found : IsFound node.task.key some c.in-Ok.place = subst (λ (o : Option Node). IfSome o (λ (n : Node). IsFound n.task.key some c.in-Ok.place)) held.1 (c.in-Ok.ensures.found some among) in
    c.remove.ensures.ids ∙ unfiled_found c.args.self.now.nodes some c.args.lane.now.ids.items c.args.id node c.in-Ok.place c.in-Ok.ensures.graph among held.1 found

pub returns-in_default-clause-ids : goal.returns-in_default-clause-ids
returns-in_default-clause-ids c some among =
    let held = found_node c.args.self.now.nodes c.args.id c.requires in
    let node : Node = held.0 in
    let place = c.in_default.field-0 in
    let gap : IsGap node.task.key some place = subst (λ (o : Option Node). IfSome o (λ (n : Node). IsGap n.task.key some place)) held.1 (c.in_default.ensures.found some among) in
    not_filed c.args.self.now.nodes some c.args.lane.now.ids.items c.args.id node place c.args.id c.in_default.ensures.graph among held.1 gap.rank (id_apart c.args.self.now.nodes some c.args.lane.now.ids.items c.args.id node place c.args.id c.in_default.ensures.graph among held.1 gap)
