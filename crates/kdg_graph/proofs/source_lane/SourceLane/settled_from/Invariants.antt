use Rattle.std.proofs.Common.{◌≡◌, ◌-◌, length}
use Rattle.kdg_graph.proofs.Common.{settled_from}
use Rattle.kdg_graph.proofs.source_lane.SourceLane.settled_from.Given as goal

-- only ids that are marked otherwise were passed over
abbrev pub invariant-loop-id : goal.invariant-loop-id
invariant-loop-id l = settled_from l.self l.place ≡ settled_from l.self l.start

abbrev pub decreases-loop-id : goal.decreases-loop-id
decreases-loop-id l = length l.self.entries - l.place
