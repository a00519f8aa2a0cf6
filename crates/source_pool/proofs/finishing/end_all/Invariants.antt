use Rattle.std.proofs.Common.{◌≡◌, length}
use Rattle.source_pool.proofs.Ended.{HaveCome}
use Rattle.source_pool.proofs.finishing.end_all.Given as goal

abbrev pub invariant-loop-done : goal.invariant-loop-done
invariant-loop-done g l = record {
  app : l.engine.app ≡ l.fn.engine.app;
  come : HaveCome (g.A.App.meaning l.fn.engine.app) l.fn.dones.items l.fn.engine.progress l.dones.items l.engine.progress;
}

abbrev pub decreases-loop-done : goal.decreases-loop-done
decreases-loop-done g l = length l.dones.items
