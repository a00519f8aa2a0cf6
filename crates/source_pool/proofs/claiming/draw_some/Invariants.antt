use Rattle.std.proofs.Common.{◌≡◌, ◌-◌, length}
use Rattle.std.specs.List.{AllByRecursion}
use Rattle.crew.specs.Jobs.{MayRun}
use Rattle.source_pool.specs.Performing.{HasDrawn}
use Rattle.source_pool.proofs.claiming.draw_some.Given as goal

abbrev pub invariant-loop-engine : goal.invariant-loop-engine
invariant-loop-engine g l = record {
  app : l.engine.app ≡ l.fn.engine.app;
  drawn : HasDrawn (g.A.App.meaning l.fn.engine.app) (λ drawn. drawn ≡ l.jobs.items) l.fn.engine.progress l.engine.progress;
  may_run : AllByRecursion (MayRun (g.A.App.meaning l.fn.engine.app)) l.jobs.items;
  ended : l.engine.progress.ended ≡ l.fn.engine.progress.ended;
}

abbrev pub decreases-loop-engine : goal.decreases-loop-engine
decreases-loop-engine g l = l.most - length l.jobs.items
