use Rattle.std.proofs.Common.{◌≡◌, ◌++◌, ◌∙◌, [], length, arith, ap, sym}
use Rattle.std.proofs.lemmas.List.{nil_from_length}
use Rattle.tiered_list.specs.Tiers.{TiersState, items_in}
use Rattle.tiered_list.proofs.Around.{back_and_middle}
use Rattle.tiered_list.proofs.tiers.Tiers.fill_back.Goals as goal

pub returns-then-not-is_empty-clause-items : goal.returns-then-not-is_empty-clause-items
returns-then-not-is_empty-clause-items g c =
    let state = c.args.self.now in
    let new = c.close_back.new.self in
    let back = ap (λ (state : TiersState g.row.T.Denot). length state.back) c.self.view_is in
    let none : state.back ≡ [] = nil_from_length state.back (omega (arith, back, c.len.ensures.len, c.if-len-eq0.true)) in
    sym (back_and_middle new.front new.back new.middle)
    ∙ (λ i. c.close_back.ensures.front i ++ (items_in (sym c.close_back.ensures.middle i) ++ sym none i))
