use Rattle.engine_trials.specs.InHand.{AreInHand}
use Rattle.engine_trials.proofs.driving.give_first_tasks.Given as goal

abbrev pub invariant-loop-pick : goal.invariant-loop-pick
invariant-loop-pick g l = AreInHand (g.A.App.meaning l.engine.app) l.engine.progress l.jobs.items
