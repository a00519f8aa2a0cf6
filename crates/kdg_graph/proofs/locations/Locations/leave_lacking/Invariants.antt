use Rattle.std.proofs.Common.{◌≡◌, ◌≤◌, ◌<◌, ℕ, Some, drop, get_or, length}
use Rattle.kdg_graph.proofs.Common.{Access, IsAscendingSet, access_at, AreFiledWith, midway, HaveNoLess, rooms_of, Node, node_at, without}
use Rattle.kdg_graph.proofs.locations.Locations.leave_lacking.Given as goal

-- at the locations that are left the node has its accesses of before
abbrev pub invariant-loop-pair : goal.invariant-loop-pair
invariant-loop-pair l = record {
  ascending : IsAscendingSet l.walk.left.now;
  beside : (node : Node) → node_at l.nodes.nodes l.id ≡ Some node → (k : ℕ) (d : ℕ × Access) → l.pair-index ≤ k → k < length l.pair-items → access_at l.walk.left.now (get_or l.pair-items k d).0 ≡ access_at node.set (get_or l.pair-items k d).0;
  filed : (node : Node) → node_at l.nodes.nodes l.id ≡ Some node → AreFiledWith (without l.id l.nodes.nodes) node (midway l.before node.set (drop l.pair-index l.before)) l.self.locations.items;
  no_less : HaveNoLess (rooms_of l.initial.self.locations.items) (rooms_of l.self.locations.items);
}
