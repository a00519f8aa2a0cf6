use Rattle.std.proofs.Common.{arith, sym, ◌∙◌, ◌∷◌, ◌++◌, []}
use Rattle.std.proofs.lemmas.List.FromFn.{map-range_with_len_more}
use Rattle.hook_app.specs.OneLocation.{own_set}
use Rattle.level_walk.proofs.walk.Walk.sets.Goals as goal

pub loop-loc-preserved : goal.loop-loc-preserved
loop-loc-preserved c =
    c.in_ok-push.ensures.items
    ∙ (λ i. c.loop-loc.invariant i ++ c.in_ok-own_set.ensures i ∷ [])
    ∙ sym (map-range_with_len_more own_set 0 c.loop-loc.loc c.loop-loc.loc (omega arith))
