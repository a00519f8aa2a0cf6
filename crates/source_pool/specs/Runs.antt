-- What a run in rounds answers.
use Rattle.std.specs.Prelude.{◌≡◌, ◌<◌, ◌+◌, ◌-◌, ℕ, length, Option, Some, None}
use Rattle.task_order.specs.Key.{end}
use Rattle.cell_store.specs.Values.{homes, values_of}
use Rattle.output_log.specs.Entries.{joined_by_key, joined_texts}
use Rattle.app_laws.specs.Applications.{Application}
use Rattle.app_laws.specs.declared.serial_run.Finals.{Finals}
use Rattle.app_laws.specs.Execution.{Execution}
use Rattle.commuting.specs.Rounds.{TakesRounds}
use Rattle.commuting.specs.States.{State, run_from}
use Rattle.crew.specs.declared.answers.OverCause.{OverCause}
use Rattle.crew.specs.declared.answers.OverCause.TheVariants as cause
use Rattle.run_laws.specs.Progress.{Progress, whole_state}

-- the state of an execution in which nothing is running: its cells are those of the store
abbrev pub state_at_rest : {V : Type 0} → Progress V → State V
state_at_rest progress = whole_state progress (values_of progress.cells)

module _ {V : Type 0} (app : Application V) (start : Progress V) where
  -- the sequential run from the start, within what is left of the limit
  abbrev pub rest_of_run : Option (Execution V)
  rest_of_run = run_from app.act (start.limit - start.ended) end (state_at_rest start)

  -- The end of the sequential run: its cells, all of them home; the texts of its log, joined with what was logged before; and how
  -- many tasks have ended. It takes this number of rounds.
  pub record IsRoundsEnd (finals : Finals V) (rounds : ℕ) : Type 0 where
    pub last : Execution V
    pub is_end : rest_of_run ≡ Some last
    pub store : finals.store ≡ homes last.cells
    pub text : finals.text ≡ joined_texts (joined_by_key start.log last.log)
    pub count : finals.count ≡ start.ended + length last.log
    pub rounds_are : TakesRounds app rounds (state_at_rest start)

  -- the sequential run does not end within what is left of the limit
  pub record IsOverLimit (created limit : ℕ) : Type 0 where
    pub too_long : rest_of_run ≡ None
    pub limit_is : limit ≡ start.limit
    pub above : limit < created

  -- too many tasks; want of memory may come at any time
  abbrev pub IsRunFault : OverCause → Type 0
  IsRunFault (cause.Budget created limit) = IsOverLimit created limit
  IsRunFault cause.NoRoom = Unit {0}
