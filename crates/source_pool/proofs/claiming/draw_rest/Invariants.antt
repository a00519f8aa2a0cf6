use Rattle.std.proofs.Common.{◌≡◌, None, length}
use Rattle.std.specs.List.{AllByRecursion}
use Rattle.crew.specs.Jobs.{MayRun}
use Rattle.run_laws.specs.Events.{clear_nodes}
use Rattle.source_pool.specs.Performing.{HasDrawn}
use Rattle.source_pool.proofs.claiming.draw_rest.Given as goal

abbrev pub invariant-loop-job : goal.invariant-loop-job
invariant-loop-job g l = record {
  app : l.engine.app ≡ l.fn.engine.app;
  not_over : l.engine.progress.over ≡ None;
  drawn : HasDrawn (g.A.App.meaning l.fn.engine.app) (λ drawn. drawn ≡ l.jobs.items) l.fn.engine.progress l.engine.progress;
  may_run : AllByRecursion (MayRun (g.A.App.meaning l.fn.engine.app)) l.jobs.items;
  ended : l.engine.progress.ended ≡ l.fn.engine.progress.ended;
}

abbrev pub decreases-loop-job : goal.decreases-loop-job
decreases-loop-job g l = length (clear_nodes (g.A.App.meaning l.fn.engine.app) l.engine.progress.nodes)
