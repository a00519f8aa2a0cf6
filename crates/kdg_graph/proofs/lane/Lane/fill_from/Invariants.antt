use Rattle.std.proofs.Common.{◌≡◌, ◌≤◌, take}
use Rattle.kdg_graph.proofs.lane.Lane.fill_from.Given as goal

abbrev pub invariant-loop-place : goal.invariant-loop-place
invariant-loop-place l = record {
  filled : l.self.ids.items ≡ take l.place l.other.ids.items;
  room : l.initial.self.ids.capacity ≤ l.self.ids.capacity;
}
