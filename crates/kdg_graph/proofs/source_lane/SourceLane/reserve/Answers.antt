use Rattle.std.proofs.Common.{List, subst, sym}
use Rattle.kdg_graph.proofs.Common.{AreMarked, HasGone, NodeId, Standing, recent_among, settled_among}
use Rattle.kdg_graph.proofs.source_lane.SourceLane.reserve.Goals as goal

pub invariant_of-self : goal.invariant_of-self
invariant_of-self c =
    let standings : List Standing = c.self.inside.standings.items in
    subst (λ (ids : List NodeId). AreMarked (settled_among standings ids) (recent_among standings c.self.inside.arrivals.items) standings × HasGone standings ids c.self.inside.gone) (sym c.reserve.ensures.ids) c.self.invariant
