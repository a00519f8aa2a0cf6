use Rattle.std.proofs.Common.{List, subst, sym}
use Rattle.kdg_graph.proofs.Common.{Node, ids_of, AreRefreshed, is_unblocked}
use Rattle.kdg_graph.proofs.Arriving.{fronts_of_none}
use Rattle.kdg_graph.proofs.Selecting.{retested_none}
use Rattle.kdg_graph.proofs.source_lane.SourceLane.refresh_behind.Goals as goal

pub returns-else-left : goal.returns-else-left
returns-else-left c =
    let nodes : List Node = c.args.nodes.now.nodes in
    subst (λ (front : List Node). AreRefreshed nodes (ids_of front) c.args.self.now c.args.self.now) (sym (fronts_of_none c.args.set.now c.args.key.now nodes (c.requires.none_left c.if-left.false))) (retested_none (is_unblocked nodes) nodes c.args.self.now c.requires.some)
