use Rattle.hall_trials.proofs.Working.{goes_on, may_go_on, not_yet}
use Rattle.hall_trials.proofs.loops.work.Goals as goal

pub loop-init : goal.loop-init
loop-init g c = not_yet c.requires

pub work_once-back-requires-after_bounds : goal.work_once-back-requires-after_bounds
work_once-back-requires-after_bounds g c κs within = may_go_on c.requires c.loop.invariant

pub loop-preserved : goal.loop-preserved
loop-preserved g c = goes_on c.loop.invariant.worked c.work_once-back.ensures.worked (c.work_once-back.ensures.idle c.if-not-goes_on.false)
