use Rattle.std.proofs.Common.{◌≡◌, length}
use Rattle.free_pool.proofs.EndsInTurn.{AreEnding}
use Rattle.free_pool.proofs.turns.end_tasks.Given as goal

abbrev pub invariant-loop-done : goal.invariant-loop-done
invariant-loop-done g l = record {
  app : l.engine.app ≡ l.fn.engine.app;
  ending : AreEnding (g.A.App.meaning l.fn.engine.app) l.fn.engine.progress l.fn.dones.items l.engine.progress l.dones.items l.ended;
}

abbrev pub decreases-loop-done : goal.decreases-loop-done
decreases-loop-done g l = length l.dones.items
