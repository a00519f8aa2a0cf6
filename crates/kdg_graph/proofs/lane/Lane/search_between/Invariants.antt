use Rattle.std.proofs.Common.{◌-◌}
use Rattle.kdg_graph.proofs.Common.{IsBetween}
use Rattle.kdg_graph.proofs.lane.Lane.search_between.Given as goal

abbrev pub invariant-loop-low : goal.invariant-loop-low
invariant-loop-low l = IsBetween l.slots l.key l.self.ids.items l.low l.high

abbrev pub decreases-loop-low : goal.decreases-loop-low
decreases-loop-low l = l.high - l.low
