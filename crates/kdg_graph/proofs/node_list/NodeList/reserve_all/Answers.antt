use Rattle.std.proofs.Common.{List, ℕ}
use Rattle.kdg_graph.proofs.Common.{changed_sets, fresh_sets, reserved_of}
use Rattle.kdg_graph.proofs.Rooms.{on_ok, room_for_all}
use Rattle.kdg_graph.proofs.node_list.NodeList.reserve_all.Goals as goal

pub returns-clause-rooms : goal.returns-clause-rooms
returns-clause-rooms c =
    let first : List ℕ = reserved_of c.begin_reservation.new.self.reservation c.begin_reservation.new.self.locations.items in
    let middle : List ℕ = reserved_of c.reserve_changed.new.locations.reservation c.reserve_changed.new.locations.locations.items in
    on_ok _ _ c.reserve_fresh.result
    (λ made. room_for_all (changed_sets c.args.changed.now) (fresh_sets c.args.fresh.now) c.reserve_fresh.new.locations.reservation first middle c.reserve_fresh.new.locations.locations.items c.in_ok-reserve_changed.ensures.room made)
    c.reserve_fresh.ensures.room
