use Rattle.std.proofs.Common.{◌<◌, ◌∙◌, length, arith, ap, subst}
use Rattle.std.proofs.lemmas.List.{length_push}
use Rattle.std.specs.List.{AllByRecursion}
use Rattle.tiered_list.specs.Tiers.{TiersState, all_items, room_for, IsFull}
use Rattle.tiered_list.proofs.Around.{back_and_middle, some_spare}
use Rattle.tiered_list.proofs.tiers.Tiers.make_room_at_back.Goals as goal

pub open_back-requires-clause-spare : goal.open_back-requires-clause-spare
open_back-requires-clause-spare g c =
    let state = c.args.self.now in
    let back = ap (λ (state : TiersState g.row.T.Denot). length state.back) c.self.view_is in
    some_spare state
    (subst (λ (state : TiersState g.row.T.Denot). AllByRecursion IsFull state.middle) c.self.view_is c.self.invariant.full)
    (omega (arith, back, c.len.ensures.len, c.if-len-eq-FULL.true))
    c.requires

pub returns-then-len-eq-FULL-clause-items : goal.returns-then-len-eq-FULL-clause-items
returns-then-len-eq-FULL-clause-items g c =
    let state = c.args.self.now in
    ap all_items c.open_back.ensures ∙ back_and_middle state.front state.back state.middle

pub returns-then-len-eq-FULL-clause-room : goal.returns-then-len-eq-FULL-clause-room
returns-then-len-eq-FULL-clause-room g c =
    let state = c.args.self.now in
    let back = ap (λ (state : TiersState g.row.T.Denot). length state.back) c.self.view_is in
    let spare : 0 < state.spare = some_spare state
    (subst (λ (state : TiersState g.row.T.Denot). AllByRecursion IsFull state.middle) c.self.view_is c.self.invariant.full)
    (omega (arith, back, c.len.ensures.len, c.if-len-eq-FULL.true))
    c.requires in
    ap room_for c.open_back.ensures ∙ omega (arith, spare, length_push state.middle state.back)
