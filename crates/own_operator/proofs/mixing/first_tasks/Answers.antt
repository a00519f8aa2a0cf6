use Rattle.std.proofs.Common.{arith, sym, ◌∙◌, ◌∷◌, ◌++◌, []}
use Rattle.std.proofs.lemmas.List.FromFn.{map-range_with_len_more}
use Rattle.own_operator.specs.Mixing.{first_at}
use Rattle.own_operator.proofs.mixing.first_tasks.Goals as goal

pub loop-at-preserved : goal.loop-at-preserved
loop-at-preserved c =
    let at = c.loop-at.at in
    c.in_ok-push.ensures.ok
    ∙ (λ i. c.loop-at.invariant i ++ record { prio = c.from-prio.ensures i; body = record { kind = 0; at = at; arg = 0 } } ∷ [])
    ∙ sym (map-range_with_len_more (first_at c.args.mixer.lookahead) 0 at at (omega arith))
