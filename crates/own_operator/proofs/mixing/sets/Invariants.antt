use Rattle.std.proofs.Common.{◌≡◌}
use Rattle.own_operator.specs.Mixing.{group_sets}
use Rattle.own_operator.proofs.mixing.sets.Given as goal

-- the groups so far have their sets
abbrev pub invariant-loop-group : goal.invariant-loop-group
invariant-loop-group l = l.sets.items ≡ group_sets l.group
