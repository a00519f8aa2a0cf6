use Rattle.std.proofs.Common.{◌≡◌}
use Rattle.std.specs.List.{AllWithin}
use Rattle.kdg_graph.proofs.Common.{TellsItsKey, arrived}
use Rattle.kdg_graph.proofs.source_lane.look_up.Given as goal

-- the ids are the same, and those so far have what their keys tell
abbrev pub invariant-loop-arrival : goal.invariant-loop-arrival
invariant-loop-arrival l = record {
  same : arrived l.arrivals ≡ arrived l.fn.arrivals;
  told : AllWithin (TellsItsKey l.nodes.nodes) l.arrivals 0 l.arrival-index;
}
