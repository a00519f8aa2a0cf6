use Rattle.std.proofs.Common.{sym, subst}
use Rattle.rw_sets.specs.Accesses.{Accesses, IsInRange}
use Rattle.board_trials.proofs.Ranges.{in_range_more}
use Rattle.board_trials.proofs.marking.Words.set.Goals as goal

pub loop-preserved : goal.loop-preserved
loop-preserved c =
    subst (λ (set : Accesses). IsInRange set c.args.cells) (sym c.in_ok-add.ensures.ok)
    (in_range_more c.loop.set (c.below-in-loop.result, c.if-below-eq0.access) c.args.cells c.below-in-loop.ensures c.loop.invariant)
