use Rattle.std.proofs.Common.{◌≡◌, ◌<◌, ◌≤◌, Greater}
use Rattle.kdg_graph.proofs.Common.{cmp_at}
use Rattle.kdg_graph.proofs.lane.Lane.search_down.Given as goal

abbrev pub invariant-loop-low : goal.invariant-loop-low
invariant-loop-low l = record {
  ordered : l.low ≤ l.high;
  grows : 0 < l.step;
  inside : l.high ≤ l.start;
  later : cmp_at l.slots l.key l.self.ids.items l.high ≡ Greater;
}

abbrev pub decreases-loop-low : goal.decreases-loop-low
decreases-loop-low l = l.low
