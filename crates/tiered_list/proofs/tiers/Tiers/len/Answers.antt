use Rattle.std.proofs.Common.{◌≡◌, ◌+◌, ◌*◌, length, arith, rules, subst}
use Rattle.tiered_list.specs.Tiers.{TiersState, all_items}
use Rattle.tiered_list.proofs.Around.{length-all}
use Rattle.tiered_list.proofs.tiers.Tiers.len.Goals as goal

pub returns-clause-len : goal.returns-clause-len
returns-clause-len g c =
    let fields = c.self.inside in
    let whole : c.len-2.result ≡ length fields.middle.items = search rules in
    subst (λ (state : TiersState g.row.T.Denot). c.len.result + 128 * c.len-2.result + c.len-3.result ≡ length (all_items state)) c.self.view_is
    (omega (arith, whole, c.len.ensures.len, c.len-3.ensures.len, length-all fields.front fields.back fields.middle.items c.self.invariant.full))
