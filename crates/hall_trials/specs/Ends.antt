-- What a hall comes to whose workers have stopped.
use Rattle.std.specs.Prelude.{◌≡◌, ◌+◌, ◌-◌, length, Some}
use Rattle.task_order.specs.Key.{end}
use Rattle.cell_store.specs.Values.{homes, values_of}
use Rattle.output_log.specs.Entries.{joined_by_key, joined_texts}
use Rattle.app_laws.specs.Applications.{Application}
use Rattle.app_laws.specs.declared.serial_run.Finals.{Finals}
use Rattle.app_laws.specs.Execution.{Execution}
use Rattle.commuting.specs.States.{run_from}
use Rattle.run_laws.specs.Progress.{Progress, whole_state}
use Rattle.graph_update.specs.Engine.{EngineState}
use Rattle.worker_gate.specs.Fits.{Fits, Sum, drained_count}

-- the engine has come from the origin, and nothing was drained since
pub record HasGoneOn {A V : Type 0} (meaning : A → Application V) (origin now : EngineState A V) : Type 0 where
  pub sum : Sum V
  pub fits : Fits meaning origin now sum
  pub drained : sum.drained ≡ drained_count origin.progress

-- The end of the sequential run from the start, within what was left of the limit: its cells, all of them home; the texts of its log,
-- joined with what was logged before; and how many tasks have ended.
pub record IsSequentialEnd {V : Type 0} (app : Application V) (start : Progress V) (finals : Finals V) : Type 0 where
  pub last : Execution V
  pub is_end : run_from app.act (start.limit - start.ended) end (whole_state start (values_of start.cells)) ≡ Some last
  pub store : finals.store ≡ homes last.cells
  pub text : finals.text ≡ joined_texts (joined_by_key start.log last.log)
  pub count : finals.count ≡ start.ended + length last.log
