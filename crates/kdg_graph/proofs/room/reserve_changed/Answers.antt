use Rattle.std.proofs.Common.{◌∷◌, [], ◌∙◌, List, ℕ, subst}
use Rattle.kdg_graph.proofs.Common.{SetChange, HasMoreFor, reserved_of}
use Rattle.kdg_graph.proofs.Rooms.{more_named, same_lanes_twice}
use Rattle.kdg_graph.proofs.room.reserve_changed.Goals as goal

pub loop-change-preserved : goal.loop-change-preserved
loop-change-preserved c =
    let before : List ℕ = reserved_of c.loop-change.locations.reservation c.loop-change.locations.locations.items in
    let after : List ℕ = reserved_of c.reserve.new.self.reservation c.reserve.new.self.locations.items in
    record {
      room = more_named (λ (x : SetChange). x.set) c.args.changed.now c.loop-change.change-index c.change-item.result _ before after c.loop-change-test.true c.loop-change.invariant.room
          (subst (λ (x : SetChange). HasMoreFor (x.set ∷ []) before after) c.change-item.is c.in_ok-reserve.ensures.room);
      number = c.reserve.ensures.number ∙ c.loop-change.invariant.number;
      lanes = same_lanes_twice _ _ _ c.loop-change.invariant.lanes c.reserve.ensures.lanes;
    }

pub returns-in_err-reserve-clause-lanes : goal.returns-in_err-reserve-clause-lanes
returns-in_err-reserve-clause-lanes c = same_lanes_twice _ c.loop-change.locations.locations.items _ c.loop-change.invariant.lanes c.reserve.ensures.lanes
