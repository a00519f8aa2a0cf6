use Rattle.std.proofs.Common.{◌≡◌, ◌≤◌, length, take}
use Rattle.kdg_graph.proofs.Listed.{ArePut}
use Rattle.kdg_graph.proofs.source_lane.put_in_order.Given as goal

-- the latest are in order with the others
abbrev pub invariant-loop-arrival : goal.invariant-loop-arrival
invariant-loop-arrival l = record {
  front : l.arrivals.items ≡ take (length l.arrivals.items) l.fn.arrivals.items;
  fits : length l.arrivals.items ≤ length l.fn.arrivals.items;
  put : ArePut l.nodes.nodes l.fn.settled.ids.items l.fn.standings l.arrivals.items l.settled.ids.items l.standings l.end;
  room : l.fn.settled.ids.capacity ≤ l.settled.ids.capacity;
}

abbrev pub decreases-loop-arrival : goal.decreases-loop-arrival
decreases-loop-arrival l = goal.left-loop-arrival l
