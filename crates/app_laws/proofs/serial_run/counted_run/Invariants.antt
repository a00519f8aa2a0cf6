use Rattle.std.proofs.Common.{◌≡◌, ◌≤◌, ◌-◌}
use Rattle.cell_store.specs.Values.{homes, values_of}
use Rattle.output_log.specs.Entries.{joined_texts}
use Rattle.app_laws.specs.Execution.{start_of, after_steps}
use Rattle.app_laws.proofs.Reached.{IsReached}
use Rattle.app_laws.proofs.Stepping.{SameUnder}
use Rattle.app_laws.proofs.UnderNames.{AreUnderNames}
use Rattle.app_laws.proofs.serial_run.counted_run.Given as goal

abbrev pub invariant-loop-task : goal.invariant-loop-task
invariant-loop-task g l = record {
  reached : IsReached (g.A.App.meaning l.app).act l.budget (start_of l.fn.cells.items l.fn.first) (values_of l.store) l.count;
  under : AreUnderNames (SameUnder (g.A.App.meaning l.app).is_fit_cells (g.A.App.meaning l.app).is_fit_task (g.A.App.meaning l.app).act) (after_steps (g.A.App.meaning l.app).act l.count (start_of l.fn.cells.items l.fn.first)).pending l.pending;
  home : l.store ≡ homes (values_of l.store);
  text : l.text ≡ joined_texts (after_steps (g.A.App.meaning l.app).act l.count (start_of l.fn.cells.items l.fn.first)).log;
  since : l.since ≤ l.count;
}

abbrev pub decreases-loop-task : goal.decreases-loop-task
decreases-loop-task g l = l.budget - l.count
