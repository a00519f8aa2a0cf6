use Rattle.std.proofs.Common.{◌≡◌, ◌∙◌, List, Option, Some, true, false, ap, subst, sym, IfSome}
use Rattle.kdg_graph.proofs.Common.{AllByRecursion, fronts_after, Node, ids_of, node_at, AreSelected, forgotten, listed_in}
use Rattle.kdg_graph.proofs.Blocking.{fronts_are_nodes}
use Rattle.kdg_graph.proofs.Selecting.{forgotten_failing}
use Rattle.kdg_graph.proofs.source_lane.SourceLane.forget_behind.Goals as goal
use Rattle.kdg_graph.specs.NodeLaws.{found_node}

pub returns-then-not-blocks_none-clause-ids : goal.returns-then-not-blocks_none-clause-ids
returns-then-not-blocks_none-clause-ids c test selected =
    let nodes : List Node = c.args.nodes.now.nodes in
    let node : Node = record { id = c.node.inside.id; task = c.node.inside.task; set = c.node.inside.set; running = c.node.inside.running } in
    let found : node_at nodes c.args.id ≡ Some node = c.entry-node.ensures ∙ ap (λ (n : Node). Some n) (sym c.node.view_is) in
    subst (λ (o : Option Node). IfSome o (λ (n : Node). (c.args.blocks_none ≡ true → AllByRecursion (λ other. test other ≡ false) (fronts_after n.set n.task.key nodes))
    → AreSelected nodes (forgotten (ids_of (fronts_after n.set n.task.key nodes)) test) (listed_in c.args.nodes.now.nodes c.forget_fronts.new.self))) (sym found) (λ _. c.forget_fronts.ensures.ids test selected)

pub returns-else-not-blocks_none-clause-ids : goal.returns-else-not-blocks_none-clause-ids
returns-else-not-blocks_none-clause-ids c test selected =
    let nodes : List Node = c.args.nodes.now.nodes in
    let found = found_node nodes c.args.id c.requires.there in
    let front : List Node = fronts_after found.0.set found.0.task.key nodes in
    subst (λ (o : Option Node). IfSome o (λ (n : Node). (c.args.blocks_none ≡ true → AllByRecursion (λ other. test other ≡ false) (fronts_after n.set n.task.key nodes))
    → AreSelected nodes (forgotten (ids_of (fronts_after n.set n.task.key nodes)) test) (listed_in c.args.nodes.now.nodes c.args.self.now))) (sym found.1)
    (λ fail. forgotten_failing nodes front test (listed_in c.args.nodes.now.nodes c.args.self.now) c.requires.graph (fronts_are_nodes found.0.set found.0.task.key nodes) (fail c.if-not-blocks_none.false) selected)
