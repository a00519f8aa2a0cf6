-- Runs whose pending tasks get other paths.
use Rattle.std.specs.Prelude.{◌≡◌, ◌⊎◌, List, []}
use Rattle.task_order.specs.declared.start.Start.{Start}
use Rattle.task_order.specs.TaskList.{put_all}
use Rattle.app_laws.specs.Applications.{Application, PathsAreIgnored}
use Rattle.app_laws.specs.Execution.{first_from}
use Rattle.app_laws.specs.Names.{AreListed}
use Rattle.app_laws.specs.Renumbering.{AreRenumbered}
use Rattle.list_rounds.specs.declared.parts.RunParts.{RunParts}
use Rattle.list_rounds.specs.Rounds.{RoundsState}

-- the pending tasks, in the order of their paths, are first tasks now, and what was logged is forgotten
pub record IsRenumbered {V : Type 0} (old now : RunParts V) : Type 0 where
  pub store : now.store ≡ old.store
  pub text : now.text ≡ old.text
  pub ended : now.ended ≡ old.ended
  pub log : now.log.entries ≡ []
  pub first : List Start
  pub listed : AreListed old.pending first
  pub pending : now.pending ≡ put_all (first_from 0 first) []

-- the same run, but that the pending tasks may have got other paths, where the application ignores paths
pub record IsSameRun {A V : Type 0} (meaning : A → Application V) (old now : RoundsState A V) : Type 0 where
  pub same_app : now.app ≡ old.app
  pub same_start : now.start ≡ old.start
  pub same_limit : now.limit ≡ old.limit
  pub same_rounds : now.rounds ≡ old.rounds
  pub same_ended : now.ended ≡ old.ended
  pub same_cells : now.state.cells ≡ old.state.cells
  pub pending : (now.state.pending ≡ old.state.pending) ⊎ (PathsAreIgnored (meaning old.app) × AreRenumbered old.state.pending now.state.pending)
