use Rattle.std.proofs.Common.{◌≡◌, ℕ, ◌+◌, ◌≤◌, ◌<◌, Some, cond, get_or, length, take, is_some}
use Rattle.kdg_graph.proofs.Common.{Access, IsAscendingSet, access_at, AreFiledWith, midway, room_at, rooms_of, Node, node_at, without}
use Rattle.kdg_graph.proofs.locations.Locations.enter_lacking.Given as goal

-- at the locations so far the node has its accesses of now
abbrev pub invariant-loop-pair : goal.invariant-loop-pair
invariant-loop-pair l = record {
  ascending : IsAscendingSet l.walk.left.now;
  beside : (node : Node) → node_at l.nodes.nodes l.id ≡ Some node → (k : ℕ) (d : ℕ × Access) → l.pair-index ≤ k → k < length l.pair-items → access_at l.walk.left.now (get_or l.pair-items k d).0 ≡ access_at l.before (get_or l.pair-items k d).0;
  filed : (node : Node) → node_at l.nodes.nodes l.id ≡ Some node → AreFiledWith (without l.id l.nodes.nodes) node (midway l.before node.set (take l.pair-index node.set)) l.self.locations.items;
  room : (loc : ℕ) → room_at (rooms_of l.initial.self.locations.items) loc ≤ room_at (rooms_of l.self.locations.items) loc + cond (is_some (access_at (take l.pair-index l.pair-items) loc)) 1 0;
}
