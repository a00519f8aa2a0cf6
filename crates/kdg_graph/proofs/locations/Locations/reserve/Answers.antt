use Rattle.std.proofs.Common.{◌≡◌, ◌∙◌, ℕ, List, add-one, get_or, subst, sym}
use Rattle.kdg_graph.proofs.Common.{Access, Read, Accesses, IsAscendingSet, reserved_of}
use Rattle.kdg_graph.proofs.Filing.{again, more_step}
use Rattle.kdg_graph.proofs.Rooms.{same_lanes_twice}
use Rattle.kdg_graph.proofs.locations.Locations.reserve.Goals as goal

pub loop-pair-preserved : goal.loop-pair-preserved
loop-pair-preserved c =
    let ps : Accesses = c.items-pair-items.result.now in
    let up : IsAscendingSet ps = subst IsAscendingSet (sym c.items-pair-items.ensures.all) c.items-pair-items.ensures.ascending in
    let i : ℕ = c.loop-pair.pair-index in
    let p : ℕ × Access = get_or ps i (0, Read) in
    let at : p ≡ get_or ps i p = again ps i (0, Read) p c.loop-pair-test.true in
    let first : List ℕ = reserved_of c.args.self.now.reservation c.args.self.now.locations.items in
    let before : List ℕ = reserved_of c.loop-pair.self.reservation c.loop-pair.self.locations.items in
    let after : List ℕ = reserved_of c.reserve_at.new.self.reservation c.reserve_at.new.self.locations.items in
    record {
      room = rw add-one (more_step ps i p first before after up c.loop-pair-test.true at c.in_ok-reserve_at.ensures.room c.in_ok-reserve_at.ensures.no_less c.loop-pair.invariant.room);
      number = c.reserve_at.ensures.number ∙ c.loop-pair.invariant.number;
      lanes = same_lanes_twice _ _ _ c.loop-pair.invariant.lanes c.reserve_at.ensures.lanes;
    }
