use Rattle.std.proofs.Common.{◌≡◌, take}
use Rattle.kdg_graph.proofs.Common.{HasMoreFor, HaveSameLanes, fresh_sets, reserved_of}
use Rattle.kdg_graph.proofs.room.reserve_fresh.Given as goal

-- the sets so far have room
abbrev pub invariant-loop-item : goal.invariant-loop-item
invariant-loop-item l = record {
  room : HasMoreFor (fresh_sets (take l.item-index l.fresh)) (reserved_of l.fn.locations.reservation l.fn.locations.locations.items) (reserved_of l.locations.reservation l.locations.locations.items);
  number : l.locations.reservation ≡ l.fn.locations.reservation;
  lanes : HaveSameLanes l.fn.locations.locations.items l.locations.locations.items;
}
