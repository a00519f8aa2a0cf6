use Rattle.std.proofs.Common.{◌≡◌, ◌∙◌, List, ap, inl, inr, subst, sym, set}
use Rattle.kdg_graph.proofs.Common.{cases_eq, Access, Read, Write, Location, ids_for, lane_of, reserved_of}
use Rattle.kdg_graph.proofs.Filing.{lane_at, lane_changed, lane_other, reserved_step}
use Rattle.kdg_graph.proofs.Rooms.{on_ok}
use Rattle.kdg_graph.proofs.locations.Locations.reserve_at.Goals as goal

pub returns-clause-room : goal.returns-clause-room
returns-clause-room c = on_ok _ _ c.reserve.result (λ more. (reserved_step c.reach.new.self.reservation c.args.loc (reserved_of c.args.self.now.reservation c.args.self.now.locations.items) c.reach.new.self.locations.items c.index_mut.result.now c.reserve.new.self c.in_ok-reach.ensures.reached c.index_mut.ensures.value more c.reach.ensures.no_less).0) c.reserve.ensures.room

pub returns-clause-no_less : goal.returns-clause-no_less
returns-clause-no_less c = on_ok _ _ c.reserve.result (λ more. (reserved_step c.reach.new.self.reservation c.args.loc (reserved_of c.args.self.now.reservation c.args.self.now.locations.items) c.reach.new.self.locations.items c.index_mut.result.now c.reserve.new.self c.in_ok-reach.ensures.reached c.index_mut.ensures.value more c.reach.ensures.no_less).1) c.reserve.ensures.room

same_for : (before after : Location) (access : Access) → ids_for Write after ≡ ids_for Write before → ids_for Read after ≡ ids_for Read before → ids_for access after ≡ ids_for access before
same_for before after Read named writers = writers
same_for before after Write named writers = named

pub returns-clause-lanes : goal.returns-clause-lanes
returns-clause-lanes c loc access =
    let before : List Location = c.reach.new.self.locations.items in
    let now : Location = c.reserve.new.self in
    let changed : lane_of (set before c.args.loc now) c.args.loc access ≡ lane_of before c.args.loc access =
    lane_changed before c.args.loc now access c.in_ok-reach.ensures.reached ∙ same_for c.index_mut.result.now now access c.reserve.ensures.named c.reserve.ensures.writers
    ∙ ap (ids_for access) c.index_mut.ensures.value ∙ sym (lane_at before c.args.loc access c.index_mut.result.now c.in_ok-reach.ensures.reached) in
    let same : lane_of (set before c.args.loc now) loc access ≡ lane_of before loc access = elim (cases_eq c.args.loc loc) [
      | inl here ↦ subst (λ n. lane_of (set before c.args.loc now) n access ≡ lane_of before n access) here changed
      | inr differs ↦ lane_other before c.args.loc loc now access differs
    ] in
    same ∙ c.reach.ensures.lanes loc access
