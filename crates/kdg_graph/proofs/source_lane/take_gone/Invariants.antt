use Rattle.std.proofs.Common.{◌≡◌, ◌≤◌, ◌-◌, length, take}
use Rattle.kdg_graph.proofs.Common.{HasGone, settled_among}
use Rattle.kdg_graph.proofs.source_lane.take_gone.Given as goal

-- those that are marked so are the same, and are all there is up to the place
abbrev pub invariant-loop-left : goal.invariant-loop-left
invariant-loop-left l = record {
  same : settled_among l.standings l.settled.ids.items ≡ settled_among l.fn.standings l.fn.settled.ids.items;
  few : HasGone l.standings l.settled.ids.items l.left;
  front : settled_among l.standings (take l.place l.settled.ids.items) ≡ take l.place l.settled.ids.items;
  inside : l.place ≤ length l.settled.ids.items;
  room : l.fn.settled.ids.capacity ≤ l.settled.ids.capacity;
}

abbrev pub decreases-loop-left : goal.decreases-loop-left
decreases-loop-left l = length l.settled.ids.items - l.place
