use Rattle.std.proofs.Common.{subst, sym}
use Rattle.kdg_graph.proofs.Common.{IsLaneAmong, NodeShelf}
use Rattle.kdg_graph.proofs.Lanes.{lane_of_among}
use Rattle.kdg_graph.proofs.ordered_nodes.OrderedNodes.rank_past.Goals as goal

pub returns-clause-rank : goal.returns-clause-rank
returns-clause-rank c some among =
    c.rank_past.ensures.rank some (lane_of_among c.self.inside.slots c.args.lane.now.ids.items some c.self.invariant (subst (λ (shelf : NodeShelf). IsLaneAmong shelf.nodes some c.args.lane.now.ids.items) (sym c.self.view_is) among))
