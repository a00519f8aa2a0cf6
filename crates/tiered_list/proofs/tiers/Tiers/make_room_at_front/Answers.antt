use Rattle.std.proofs.Common.{◌<◌, ◌∙◌, length, arith, ap, subst}
use Rattle.std.specs.List.{AllByRecursion}
use Rattle.tiered_list.specs.Tiers.{TiersState, room_for, IsFull}
use Rattle.tiered_list.proofs.Around.{some_spare}
use Rattle.tiered_list.proofs.tiers.Tiers.make_room_at_front.Goals as goal

pub open_front-requires-clause-spare : goal.open_front-requires-clause-spare
open_front-requires-clause-spare g c =
    let state = c.args.self.now in
    let front = ap (λ (state : TiersState g.row.T.Denot). length state.front) c.self.view_is in
    some_spare state
    (subst (λ (state : TiersState g.row.T.Denot). AllByRecursion IsFull state.middle) c.self.view_is c.self.invariant.full)
    (omega (arith, front, c.len.ensures.len, c.if-len-eq-FULL.true))
    c.requires

pub returns-then-len-eq-FULL-clause-room : goal.returns-then-len-eq-FULL-clause-room
returns-then-len-eq-FULL-clause-room g c =
    let state = c.args.self.now in
    let front = ap (λ (state : TiersState g.row.T.Denot). length state.front) c.self.view_is in
    let spare : 0 < state.spare = some_spare state
    (subst (λ (state : TiersState g.row.T.Denot). AllByRecursion IsFull state.middle) c.self.view_is c.self.invariant.full)
    (omega (arith, front, c.len.ensures.len, c.if-len-eq-FULL.true))
    c.requires in
    ap room_for c.open_front.ensures ∙ omega (arith, spare)
