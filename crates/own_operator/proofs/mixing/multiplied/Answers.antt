use Rattle.std.proofs.Common.{ap, ℕ, ◌*◌, ◌∙◌}
use Rattle.std.specs.Prelude.{◌%◌, ◌^◌}
use Rattle.own_operator.proofs.Groups.{multiplied_more, multiplied_none}
use Rattle.own_operator.proofs.mixing.multiplied.Goals as goal

pub loop-factor-init : goal.loop-factor-init
loop-factor-init c = multiplied_none c.args.value c.ranges.value.fits

pub loop-factor-preserved : goal.loop-factor-preserved
loop-factor-preserved c =
    ap (λ (product : ℕ). (product * 13) % 2 ^ 64) c.loop-factor.invariant
    ∙ multiplied_more c.args.value c.loop-factor._factor
