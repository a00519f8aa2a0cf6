use Rattle.std.proofs.Common.{◌≡◌, ℕ, ◌<◌, [], false, Some, drop, get_or}
use Rattle.kdg_graph.proofs.Common.{Access, Read, access_at, AreFiledWith, HaveNoLess, clashing_at, rooms_of, Node, node_at, without}
use Rattle.kdg_graph.proofs.locations.Locations.leave.Given as goal

-- at the locations that are to come the node is still filed, and it is known whether some other clashes at one so far
abbrev pub invariant-loop-pair : goal.invariant-loop-pair
invariant-loop-pair l = record {
  filed : (node : Node) → node_at l.nodes.nodes l.id ≡ Some node → AreFiledWith (without l.id l.nodes.nodes) node (access_at (drop l.pair-index l.pair-items)) l.self.locations.items;
  none_left : l.left ≡ false → (k : ℕ) → k < l.pair-index → (let p : ℕ × Access = get_or l.pair-items k (0, Read) in clashing_at p.0 p.1 (without l.id l.nodes.nodes) ≡ []);
  no_less : HaveNoLess (rooms_of l.initial.self.locations.items) (rooms_of l.self.locations.items);
}
