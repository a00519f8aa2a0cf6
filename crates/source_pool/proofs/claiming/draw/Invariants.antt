use Rattle.std.proofs.Common.{◌≡◌, length}
use Rattle.std.specs.List.{AllByRecursion}
use Rattle.cell_store.specs.Values.{values_of}
use Rattle.crew.specs.Jobs.{MayRun}
use Rattle.run_laws.specs.Events.{clear_nodes}
use Rattle.source_pool.specs.Course.{IsDrawing}
use Rattle.source_pool.proofs.claiming.draw.Given as goal

abbrev pub invariant-loop-job : goal.invariant-loop-job
invariant-loop-job g l = record {
  app : l.engine.app ≡ l.fn.engine.app;
  drawing : IsDrawing (g.A.App.meaning l.fn.engine.app) g.from.start (values_of g.from.start.cells) g.from.state g.from.text l.engine.progress l.jobs.items;
  may_run : AllByRecursion (MayRun (g.A.App.meaning l.fn.engine.app)) l.jobs.items;
  ended : l.engine.progress.ended ≡ l.fn.engine.progress.ended;
}

abbrev pub decreases-loop-job : goal.decreases-loop-job
decreases-loop-job g l = length (clear_nodes (g.A.App.meaning l.fn.engine.app) l.engine.progress.nodes)
