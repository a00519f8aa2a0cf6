-- What a run without rounds answers.
use Rattle.std.specs.Prelude.{◌≡◌, ◌+◌, ℕ, length, Some}
use Rattle.cell_store.specs.Values.{homes}
use Rattle.output_log.specs.Entries.{joined_by_key, joined_texts}
use Rattle.app_laws.specs.Applications.{Application}
use Rattle.app_laws.specs.declared.serial_run.Finals.{Finals}
use Rattle.app_laws.specs.Execution.{Execution}
use Rattle.run_laws.specs.Progress.{Progress}
use Rattle.source_pool.specs.Runs.{IsRoundsEnd, rest_of_run}

-- The end of the sequential run from the start, within what is left of the limit: its cells, all of them home; the texts of its log,
-- joined with what was logged before; and how many tasks have ended.
pub record IsRunEnd {V : Type 0} (app : Application V) (start : Progress V) (finals : Finals V) : Type 0 where
  pub last : Execution V
  pub is_end : rest_of_run app start ≡ Some last
  pub store : finals.store ≡ homes last.cells
  pub text : finals.text ≡ joined_texts (joined_by_key start.log last.log)
  pub count : finals.count ≡ start.ended + length last.log

-- a run in rounds has the same end
pub end_of_rounds : {V : Type 0} (app : Application V) (start : Progress V) (finals : Finals V) (rounds : ℕ) → IsRoundsEnd app start finals rounds → IsRunEnd app start finals
end_of_rounds app start finals rounds ended = record { last = ended.last; is_end = ended.is_end; store = ended.store; text = ended.text; count = ended.count }
