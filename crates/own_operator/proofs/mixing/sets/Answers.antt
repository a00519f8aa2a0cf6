use Rattle.std.proofs.Common.{arith, sym, ◌∙◌, ◌∷◌, ◌++◌, []}
use Rattle.std.proofs.lemmas.List.FromFn.{map-range_with_len_more}
use Rattle.hook_app.specs.OneLocation.{own_set}
use Rattle.own_operator.proofs.mixing.sets.Goals as goal

pub loop-group-preserved : goal.loop-group-preserved
loop-group-preserved c =
    c.in_ok-push.ensures.items
    ∙ (λ i. c.loop-group.invariant i ++ c.in_ok-own_set.ensures i ∷ [])
    ∙ sym (map-range_with_len_more own_set 0 c.loop-group.group c.loop-group.group (omega arith))
