use Rattle.std.proofs.Common.{◌≡◌, List, Option, Some, subst, sym, Bor, IfSome, slice_get}
use Rattle.kdg_graph.proofs.Common.{Lane, IsOrderShown, Node, later_than, least_of, node_at}
use Rattle.kdg_graph.proofs.Ordered.{next_in_order}
use Rattle.kdg_graph.proofs.laters.place_behind.Goals as goal

pub returns-in-Some : goal.returns-in-Some
returns-in-Some c =
    let nodes : List Node = c.args.nodes.now.nodes in
    let all : IsOrderShown nodes (Some c.in-Some.order) = subst (IsOrderShown nodes) c.in-Some.is c.requires.order in
    subst (λ (o : Option (Bor Lane)). IfSome o (λ lane. IfSome (node_at nodes c.args.id) (λ node. slice_get lane.now.ids.items c.rank_behind.result ≡ least_of (later_than node.task.key nodes)))) (sym c.in-Some.is)
    (next_in_order nodes c.in-Some.order.now.ids.items c.args.id c.rank_behind.result c.rank_behind.ensures.graph c.requires.there all c.rank_behind.ensures.rank)
