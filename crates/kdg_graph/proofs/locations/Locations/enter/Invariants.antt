use Rattle.std.proofs.Common.{◌≡◌, ℕ, ◌+◌, ◌<◌, ◌≤◌, [], Some, true, cond, get_or, take, is_some}
use Rattle.kdg_graph.proofs.Common.{Access, Read, Write, access_at, is_blocked, BlocksNoneAlone, AreFiledWith, clashing_at, room_at, rooms_of, Node, earlier_than, node_at, without}
use Rattle.kdg_graph.proofs.locations.Locations.enter.Given as goal

-- at the locations so far the node is filed, and what is told of the others holds there
abbrev pub invariant-loop-pair : goal.invariant-loop-pair
invariant-loop-pair l = record {
  first : (node : Node) → node_at l.nodes.nodes l.id ≡ Some node → l.first ≡ true → (k : ℕ) → k < l.pair-index → earlier_than node.task.key (clashing_at (get_or l.pair-items k (0, Read)).0 Write (without l.id l.nodes.nodes)) ≡ [];
  blocked : (node : Node) → node_at l.nodes.nodes l.id ≡ Some node → l.blocked ≡ true → is_blocked l.nodes.nodes node ≡ true;
  blocks_none : (node : Node) → node_at l.nodes.nodes l.id ≡ Some node → l.blocks_none ≡ true → (k : ℕ) → k < l.pair-index
      → (let p : ℕ × Access = get_or l.pair-items k (0, Read) in BlocksNoneAlone p.1 node.task.key (clashing_at p.0 Write (without l.id l.nodes.nodes)) (clashing_at p.0 Read (without l.id l.nodes.nodes)));
  filed : (node : Node) → node_at l.nodes.nodes l.id ≡ Some node → AreFiledWith (without l.id l.nodes.nodes) node (access_at (take l.pair-index l.pair-items)) l.self.locations.items;
  room : (loc : ℕ) → room_at (rooms_of l.initial.self.locations.items) loc ≤ room_at (rooms_of l.self.locations.items) loc + cond (is_some (access_at (take l.pair-index l.pair-items) loc)) 1 0;
}
