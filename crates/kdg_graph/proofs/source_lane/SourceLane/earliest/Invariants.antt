use Rattle.std.proofs.Common.{◌≡◌, ◌++◌, filter, take}
use Rattle.kdg_graph.proofs.Common.{least_of, arrived, is_left, recent_among, settled_in}
use Rattle.kdg_graph.proofs.source_lane.SourceLane.earliest.Given as goal

-- the first of those in order and of those so far that are marked as having come
abbrev pub invariant-loop-arrival : goal.invariant-loop-arrival
invariant-loop-arrival l =
    l.first ≡ least_of (filter (is_left l.nodes.nodes (settled_in l.self ++ arrived (recent_among l.self.standings (take l.arrival-index l.arrival-items))) l.last) l.nodes.nodes)
