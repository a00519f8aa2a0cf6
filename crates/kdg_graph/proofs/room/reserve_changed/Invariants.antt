use Rattle.std.proofs.Common.{◌≡◌, take}
use Rattle.kdg_graph.proofs.Common.{HasMoreFor, HaveSameLanes, changed_sets, reserved_of}
use Rattle.kdg_graph.proofs.room.reserve_changed.Given as goal

-- the sets so far have room
abbrev pub invariant-loop-change : goal.invariant-loop-change
invariant-loop-change l = record {
  room : HasMoreFor (changed_sets (take l.change-index l.changed)) (reserved_of l.fn.locations.reservation l.fn.locations.locations.items) (reserved_of l.locations.reservation l.locations.locations.items);
  number : l.locations.reservation ≡ l.fn.locations.reservation;
  lanes : HaveSameLanes l.fn.locations.locations.items l.locations.locations.items;
}
