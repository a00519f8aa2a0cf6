use Rattle.std.proofs.Common.{◌≡◌}
use Rattle.own_operator.specs.Mixing.{group_tasks}
use Rattle.own_operator.proofs.mixing.first_tasks.Given as goal

-- the groups so far have their first tasks
abbrev pub invariant-loop-at : goal.invariant-loop-at
invariant-loop-at l = l.first ≡ group_tasks l.mixer.lookahead l.at
