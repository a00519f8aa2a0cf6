use Rattle.std.proofs.Common.{Some, subst}
use Rattle.kdg_graph.proofs.Common.{IsOrder, without}
use Rattle.kdg_graph.proofs.Ordered.{order_put}
use Rattle.kdg_graph.proofs.node_list.enter_order.Goals as goal

pub returns-in-Some-clause-order : goal.returns-in-Some-clause-order
returns-in-Some-clause-order c =
    let others : IsOrder (without c.args.id c.args.nodes.now.nodes) (Some c.in-Some.lane) = subst (IsOrder (without c.args.id c.args.nodes.now.nodes)) c.in-Some.is c.requires.others in
    order_put c.args.id c.args.nodes.now.nodes c.in-Some.lane.ids.items c.put_into.new.lane.ids.items c.len-graph.ensures.graph c.requires.there others c.put_into.ensures.ids
