use Rattle.std.proofs.Common.{Some, subst}
use Rattle.kdg_graph.proofs.Common.{IsOrder}
use Rattle.kdg_graph.proofs.Ordered.{order_without}
use Rattle.kdg_graph.proofs.node_list.leave_order.Goals as goal

pub returns-in-Some-clause-order : goal.returns-in-Some-clause-order
returns-in-Some-clause-order c =
    let all : IsOrder c.args.nodes.now.nodes (Some c.in-Some.lane) = subst (IsOrder c.args.nodes.now.nodes) c.in-Some.is c.requires.all in
    order_without c.args.id c.args.nodes.now.nodes c.in-Some.lane.ids.items c.take_from.new.lane.ids.items c.len-graph.ensures.graph all c.take_from.ensures.ids
