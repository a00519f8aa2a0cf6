use Rattle.std.proofs.Common.{◌≡◌, ◌∙◌, [], ◌∷◌, Option, ap, arith, subst, sym, IfSome, insert}
use Rattle.kdg_graph.proofs.Common.{nil_from_length, NodeId, Node, ids_of, put_node}
use Rattle.kdg_graph.proofs.Filing.{no_ids}
use Rattle.kdg_graph.proofs.LookUps.{ids_find_nodes}
use Rattle.kdg_graph.proofs.ordered_nodes.OrderedNodes.put_into.Goals as goal
use Rattle.kdg_graph.specs.NodeLaws.{found_node}

pub returns-then-len-eq0-clause-ids : goal.returns-then-len-eq0-clause-ids
returns-then-len-eq0-clause-ids c some among =
    let held = found_node c.args.self.now.nodes c.args.id c.requires.there in
    let node : Node = held.0 in
    let no_id : c.args.lane.now.ids.items ≡ [] = nil_from_length c.args.lane.now.ids.items (omega (arith, c.len.ensures.len, c.if-len-eq0.true)) in
    let none : some ≡ [] = no_ids some (sym among.ids_are ∙ no_id) in
    let is : node.id ≡ c.args.id = (ids_find_nodes c.args.self.now.nodes c.args.id node held.1).1 in
    subst (λ (o : Option Node). IfSome o (λ (n : Node). c.insert.new.self.ids.items ≡ ids_of (put_node n some))) (sym held.1)
    (c.insert.ensures.ids ∙ ap (λ l. insert l 0 c.args.id) no_id ∙ ap (λ (id : NodeId). id ∷ []) (sym is) ∙ ap (λ l. ids_of (put_node node l)) (sym none))
