use Rattle.std.proofs.Common.{◌≡◌}
use Rattle.own_operator.specs.Mixing.{multiplied}
use Rattle.own_operator.proofs.mixing.multiplied.Given as goal

-- the product has so many factors
abbrev pub invariant-loop-factor : goal.invariant-loop-factor
invariant-loop-factor l = l.product ≡ multiplied l.fn.value l._factor
