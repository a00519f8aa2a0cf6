-- What a whole run in rounds answers.
use Rattle.std.specs.Prelude.{ℕ}
use Rattle.app_laws.specs.declared.serial_run.Finals.{Finals}
use Rattle.app_laws.specs.Applications.{Application}
use Rattle.app_laws.specs.Serial.{IsRun}
use Rattle.commuting.specs.Rounds.{TakesRounds}
use Rattle.commuting.specs.States.{State, execution_from}

-- the end of the sequential execution within the limit, which takes this number of rounds
pub record IsRoundsEnd {V : Type 0} (app : Application V) (start : State V) (limit : ℕ) (finals : Finals V) (rounds : ℕ) : Type 0 where
  pub run : IsRun app.act limit (execution_from start) finals
  pub rounds_are : TakesRounds app rounds start
