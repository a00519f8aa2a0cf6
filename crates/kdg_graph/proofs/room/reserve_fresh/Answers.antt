use Rattle.std.proofs.Common.{◌∷◌, [], ◌∙◌, List, ℕ, subst}
use Rattle.kdg_graph.proofs.Common.{Fresh, HasMoreFor, reserved_of}
use Rattle.kdg_graph.proofs.Rooms.{more_named, same_lanes_twice}
use Rattle.kdg_graph.proofs.room.reserve_fresh.Goals as goal

pub loop-item-preserved : goal.loop-item-preserved
loop-item-preserved c =
    let before : List ℕ = reserved_of c.loop-item.locations.reservation c.loop-item.locations.locations.items in
    let after : List ℕ = reserved_of c.reserve.new.self.reservation c.reserve.new.self.locations.items in
    record {
      room = more_named (λ (x : Fresh). x.set) c.args.fresh.now c.loop-item.item-index c.item-item.result _ before after c.loop-item-test.true c.loop-item.invariant.room
          (subst (λ (x : Fresh). HasMoreFor (x.set ∷ []) before after) c.item-item.is c.in_ok-reserve.ensures.room);
      number = c.reserve.ensures.number ∙ c.loop-item.invariant.number;
      lanes = same_lanes_twice _ _ _ c.loop-item.invariant.lanes c.reserve.ensures.lanes;
    }

pub returns-in_err-reserve-clause-lanes : goal.returns-in_err-reserve-clause-lanes
returns-in_err-reserve-clause-lanes c = same_lanes_twice _ c.loop-item.locations.locations.items _ c.loop-item.invariant.lanes c.reserve.ensures.lanes
