use Rattle.engine_trials.specs.InHand.{AreInHand}
use Rattle.engine_trials.proofs.driving.claims_answer.Given as goal

abbrev pub invariant-loop-answer : goal.invariant-loop-answer
invariant-loop-answer g l = AreInHand (g.A.App.meaning l.engine.app) l.engine.progress l.jobs.items
