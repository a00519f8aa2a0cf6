use Rattle.std.proofs.Common.{◌≡◌, refl, sym, ◌∙◌, ap}
use Rattle.task_order.specs.Key.{key_cmp}
use Rattle.task_order.proofs.KeyOrder.{key_cmp-exact}
use Rattle.task_order.proofs.Words.{tied-then}
use Rattle.task_order.proofs.key.Key.compare.Goals as goal
use Rattle.task_order.specs.KeyLaws.{key_cmp-same}

pub returns-in-Equal-clause-same : goal.returns-in-Equal-clause-same
returns-in-Equal-clause-same c =
    let self = c.args.self.now in
    let other = c.args.other.now in
    let order : c.cmp-in-Equal.result ≡ key_cmp self other = tied-then (key_cmp self other) _ _ c.cmp.result c.cmp-in-Equal.result refl c.cmp.ensures c.in-Equal.is c.cmp-in-Equal.ensures in
    (λ equal. key_cmp-exact self other (sym order ∙ equal), λ same. order ∙ ap (key_cmp self) (sym same) ∙ key_cmp-same self)
