use Rattle.std.proofs.Common.{take}
use Rattle.kdg_graph.proofs.Common.{ids_of, fronts_after, AreRefreshed}
use Rattle.kdg_graph.proofs.source_lane.SourceLane.refresh_fronts.Given as goal

-- the fronts at the locations so far are refreshed
abbrev pub invariant-loop-pair : goal.invariant-loop-pair
invariant-loop-pair l = AreRefreshed l.nodes.nodes (ids_of (fronts_after (take l.pair-index l.set) l.key l.nodes.nodes)) l.fn.self l.self
