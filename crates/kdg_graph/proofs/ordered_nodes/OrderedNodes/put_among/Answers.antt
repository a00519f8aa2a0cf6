use Rattle.std.proofs.Common.{◌≡◌, ◌∙◌, Option, Some, ap, subst, sym, IfSome, insert}
use Rattle.kdg_graph.proofs.Common.{IsRank, Node, ids_of, node_at, put_node}
use Rattle.kdg_graph.proofs.Lanes.{filed}
use Rattle.kdg_graph.proofs.LookUps.{ids_find_nodes}
use Rattle.kdg_graph.proofs.ordered_nodes.OrderedNodes.put_among.Goals as goal

pub returns-clause-ids : goal.returns-clause-ids
returns-clause-ids c some among =
    let node : Node = record { id = c.node.inside.id; task = c.node.inside.task; set = c.node.inside.set; running = c.node.inside.running } in
    let found : node_at c.args.self.now.nodes c.args.id ≡ Some node = c.entry-node.ensures ∙ ap (λ (n : Node). Some n) (sym c.node.view_is) in
    let is : node.id ≡ c.args.id = (ids_find_nodes c.args.self.now.nodes c.args.id node found).1 in
    let placed = filed c.args.lane.now.ids.items some node c.rank_among-place.result among.ids_are (c.rank_among-place.ensures.rank some among) in
    subst (λ (o : Option Node). IfSome o (λ (n : Node). c.insert.new.self.ids.items ≡ ids_of (put_node n some))) (sym found)
    (c.insert.ensures.ids ∙ ap (λ id. insert c.args.lane.now.ids.items c.rank_among-place.result id) (sym is) ∙ placed)

pub returns-clause-place : goal.returns-clause-place
returns-clause-place c some among =
    let node : Node = record { id = c.node.inside.id; task = c.node.inside.task; set = c.node.inside.set; running = c.node.inside.running } in
    let found : node_at c.args.self.now.nodes c.args.id ≡ Some node = c.entry-node.ensures ∙ ap (λ (n : Node). Some n) (sym c.node.view_is) in
    subst (λ (o : Option Node). IfSome o (λ (n : Node). IsRank n.task.key some c.rank_among-place.result)) (sym found) (c.rank_among-place.ensures.rank some among)
