use Rattle.std.proofs.Common.{◌≡◌, ◌≤◌, ◌+◌, ℕ, length}
use Rattle.kdg_graph.proofs.Common.{AllByRecursion, into_iter_items, into_iter_len, HasRoomFor, changed_sets, times_named, room_at, HasNode, IsGraph, AreOfOwnNodes, with_sets}
use Rattle.kdg_graph.proofs.node_list.NodeList.set_sets.Given as goal

-- what is left makes the whole change
abbrev pub invariant-loop-change : goal.invariant-loop-change
invariant-loop-change l = record {
  len : into_iter_len l.change-iterator ≡ length (into_iter_items l.change-iterator);
  there : AllByRecursion (λ change. HasNode l.self.nodes change.node) (into_iter_items l.change-iterator);
  own : AreOfOwnNodes (into_iter_items l.change-iterator);
  nodes : with_sets (into_iter_items l.initial.change-iterator) l.initial.self.nodes ≡ with_sets (into_iter_items l.change-iterator) l.self.nodes;
  graph : IsGraph l.self.nodes;
  rooms : HasRoomFor (changed_sets (into_iter_items l.change-iterator)) l.self.rooms;
  taken : (loc : ℕ) → room_at l.initial.self.rooms loc + times_named (changed_sets (into_iter_items l.change-iterator)) loc ≤ room_at l.self.rooms loc + times_named (changed_sets (into_iter_items l.initial.change-iterator)) loc;
  room : l.initial.self.room ≤ l.self.room;
}
