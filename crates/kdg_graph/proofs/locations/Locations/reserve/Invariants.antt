use Rattle.std.proofs.Common.{◌≡◌, ℕ, ◌+◌, ◌≤◌, cond, is_some, take}
use Rattle.kdg_graph.proofs.Common.{HaveSameLanes, access_at, reserved_of, room_at}
use Rattle.kdg_graph.proofs.locations.Locations.reserve.Given as goal

-- at the locations so far there is room for one more
abbrev pub invariant-loop-pair : goal.invariant-loop-pair
invariant-loop-pair l = record {
  room : (loc : ℕ) → room_at (reserved_of l.initial.self.reservation l.initial.self.locations.items) loc + cond (is_some (access_at (take l.pair-index l.pair-items) loc)) 1 0 ≤ room_at (reserved_of l.self.reservation l.self.locations.items) loc;
  number : l.self.reservation ≡ l.initial.self.reservation;
  lanes : HaveSameLanes l.initial.self.locations.items l.self.locations.items;
}
