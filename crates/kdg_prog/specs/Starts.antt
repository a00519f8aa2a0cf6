-- The start of a run.
use Rattle.app_laws.specs.Applications.{Application, AreFitStarts}
use Rattle.run_laws.specs.Answers.{IsBegun}
use Rattle.run_laws.specs.Progress.{Progress}
use Rattle.kdg_prog.specs.declared.words.Options.{Options}
use Rattle.kdg_prog.specs.Problem.{Setting}

-- an engine that has begun on the cells and tasks of a setting, which are fit, within the budget
pub record IsStarted {V : Type 0} (options : Options) (app : Application V) (setting : Setting V) (progress : Progress V) : Type 0 where
  pub begun : IsBegun app setting.cells setting.tasks options.budget progress
  pub fit_cells : app.is_fit_cells setting.cells
  pub fit_tasks : AreFitStarts app setting.tasks
