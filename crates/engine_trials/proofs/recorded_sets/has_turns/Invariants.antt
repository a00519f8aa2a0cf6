use Rattle.engine_trials.specs.InHand.{AreInHand}
use Rattle.engine_trials.proofs.recorded_sets.has_turns.Given as goal

abbrev pub invariant-loop-turn : goal.invariant-loop-turn
invariant-loop-turn g l = AreInHand (g.A.App.meaning l.engine.app) l.engine.progress l.jobs.items
