use Rattle.std.proofs.Common.{length}
use Rattle.engine_trials.specs.InHand.{AreInHand}
use Rattle.engine_trials.proofs.driving.finish_all.Given as goal

abbrev pub invariant-loop-engine : goal.invariant-loop-engine
invariant-loop-engine g l = AreInHand (g.A.App.meaning l.engine.app) l.engine.progress l.jobs.items

abbrev pub decreases-loop-engine : goal.decreases-loop-engine
decreases-loop-engine g l = length l.jobs.items
