use Rattle.std.proofs.Common.{◌≡◌, ◌∷◌, List, ap, subst, sym, length, arith}
use Rattle.kdg_graph.proofs.Common.{drain_items, Fresh, Node, tasks_of, AreAdded, HaveNewKeys, HasRoomFor, fresh_sets}
use Rattle.kdg_graph.proofs.Rewrites.{added_first, new_keys_rest}
use Rattle.kdg_graph.proofs.Rooms.{first_room, room_left}
use Rattle.kdg_graph.proofs.node_list.NodeList.put_all.Goals as goal

pub loop-item-preserved : goal.loop-item-preserved
loop-item-preserved c =
    let at = c.loop-item in
    let item : Fresh = c.in-Some.item in
    let rest : List Fresh = drain_items c.next.new.self in
    let steps : drain_items at.item-iterator ≡ item ∷ rest = c.in-Some.ensures.steps.0 in
    let keys : HaveNewKeys (tasks_of at.self.nodes) (item ∷ rest) = subst (HaveNewKeys (tasks_of at.self.nodes)) steps at.invariant.new in
    let room : HasRoomFor (item.set ∷ fresh_sets rest) at.self.rooms = subst (λ (l : List Fresh). HasRoomFor (fresh_sets l) at.self.rooms) steps at.invariant.rooms in
    let was = at.invariant.len in
    let gone = c.in-Some.ensures.steps.1 in
    let short = ap length steps in
    record {
      len = omega arith;
      room = omega arith;
      rooms = room_left item.set (fresh_sets rest) at.self.rooms c.put.new.self.rooms room c.put.ensures.rooms;
      graph = c.put.ensures.graph;
      new = subst (λ (l : List Node). HaveNewKeys (tasks_of l) rest) (sym c.put.ensures.nodes) (new_keys_rest item rest at.self.nodes c.put.result keys);
      added = λ now added.
          at.invariant.added now (subst (λ (l : List Fresh). AreAdded at.self.nodes l now) (sym steps)
          (added_first item rest at.self.nodes now c.put.result (subst (λ (l : List Node). AreAdded l rest now) c.put.ensures.nodes added)));
    }

pub put-requires-clause-rooms : goal.put-requires-clause-rooms
put-requires-clause-rooms c =
    let at = c.loop-item in
    let item : Fresh = c.in-Some.item in
    let rest : List Fresh = drain_items c.next.new.self in
    let room : HasRoomFor (item.set ∷ fresh_sets rest) at.self.rooms = subst (λ (l : List Fresh). HasRoomFor (fresh_sets l) at.self.rooms) c.in-Some.ensures.steps.0 at.invariant.rooms in
    first_room item.set (fresh_sets rest) at.self.rooms room
