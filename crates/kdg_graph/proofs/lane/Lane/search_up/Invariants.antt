use Rattle.std.proofs.Common.{◌≡◌, ℕ, suc, ◌-◌, ◌<◌, ◌≤◌, length, Less}
use Rattle.kdg_graph.proofs.Common.{cmp_at}
use Rattle.kdg_graph.proofs.lane.Lane.search_up.Given as goal

abbrev pub invariant-loop-low : goal.invariant-loop-low
invariant-loop-low l = record {
  ordered : l.low ≤ l.probe;
  grows : 0 < l.step;
  inside : l.low ≤ length l.self.ids.items;
  earlier : (place : ℕ) → suc place ≡ l.low → cmp_at l.slots l.key l.self.ids.items place ≡ Less;
}

abbrev pub decreases-loop-low : goal.decreases-loop-low
decreases-loop-low l = length l.self.ids.items - l.probe
