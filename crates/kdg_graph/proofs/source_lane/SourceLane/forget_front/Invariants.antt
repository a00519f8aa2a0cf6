use Rattle.std.proofs.Common.{◌-◌, take, drop}
use Rattle.kdg_graph.proofs.Common.{lane_of, AreForgotten}
use Rattle.kdg_graph.proofs.source_lane.SourceLane.forget_front.Given as goal

-- the nodes of the front so far are forgotten
abbrev pub invariant-loop-place : goal.invariant-loop-place
invariant-loop-place l = AreForgotten l.nodes.nodes (take (l.place - l.initial.place) (drop l.initial.place (lane_of l.locations.locations.items l.loc l.access))) l.fn.self l.self
