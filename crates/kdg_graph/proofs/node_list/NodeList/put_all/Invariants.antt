use Rattle.std.proofs.Common.{◌≡◌, ◌≤◌, List, length}
use Rattle.kdg_graph.proofs.Common.{drain_items, drain_len, HasRoomFor, fresh_sets, Node, IsGraph, tasks_of, AreAdded, HaveNewKeys}
use Rattle.kdg_graph.proofs.node_list.NodeList.put_all.Given as goal

-- whoever adds what is left adds all
abbrev pub invariant-loop-item : goal.invariant-loop-item
invariant-loop-item l = record {
  len : drain_len l.item-iterator ≡ length (drain_items l.item-iterator);
  room : length (drain_items l.item-iterator) ≤ l.self.room;
  rooms : HasRoomFor (fresh_sets (drain_items l.item-iterator)) l.self.rooms;
  graph : IsGraph l.self.nodes;
  new : HaveNewKeys (tasks_of l.self.nodes) (drain_items l.item-iterator);
  added : (now : List Node) → AreAdded l.self.nodes (drain_items l.item-iterator) now → AreAdded l.initial.self.nodes (drain_items l.initial.item-iterator) now;
}
