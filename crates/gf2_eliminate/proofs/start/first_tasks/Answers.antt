use Rattle.std.specs.Prelude.{◌≡◌, ◌+◌, suc, [], ◌∷◌, ◌++◌}
use Rattle.std.proofs.Common.{arith, ap, ◌∙◌}
use Rattle.gf2_eliminate.proofs.Printing.{task_more}
use Rattle.gf2_eliminate.proofs.start.first_tasks.Goals as goal

pub loop-column-preserved : goal.loop-column-preserved
loop-column-preserved c =
    let prio : c.from.result + 1 ≡ suc c.loop-column.column = omega (arith, c.from.ensures) in
    task_more c.loop-column.column c.loop-column.starts c.push.new.self c.loop-column.invariant
    (c.in_ok-push.ensures.ok ∙ ap (λ p. c.loop-column.starts ++ record { prio = p; body = record { kind = 0; at = c.loop-column.column; arg = 0 } } ∷ []) prio)
