use Rattle.std.proofs.Common.{◌∷◌, [], List, ℕ}
use Rattle.kdg_graph.proofs.Common.{reserved_of}
use Rattle.kdg_graph.proofs.Rooms.{on_ok, room_for}
use Rattle.kdg_graph.proofs.node_list.NodeList.reserve.Goals as goal

pub returns-clause-rooms : goal.returns-clause-rooms
returns-clause-rooms c =
    let first : List ℕ = reserved_of c.begin_reservation.new.self.reservation c.begin_reservation.new.self.locations.items in
    on_ok _ _ c.reserve.result (λ made. room_for (c.args.set.now ∷ []) c.reserve.new.self.reservation first c.reserve.new.self.locations.items made) c.reserve.ensures.room
