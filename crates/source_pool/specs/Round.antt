-- What a round of a run begins with, and what it comes to.
use Rattle.std.specs.Prelude.{◌≡◌, ◌≢◌, ◌<◌, ◌+◌, ℕ, List, [], length}
use Rattle.app_laws.specs.Applications.{Application}
use Rattle.commuting.specs.Rounds.{after_round, clear_tasks}
use Rattle.crew.specs.declared.answers.OverCause.{OverCause}
use Rattle.run_laws.specs.Jobs.{Job}
use Rattle.run_laws.specs.Progress.{Progress}
use Rattle.source_pool.specs.Course.{AreToEnd, RestsAt, RunPoint}
use Rattle.source_pool.specs.Kept.{PassesWith}
use Rattle.source_pool.specs.Runs.{IsRunFault}

module _ {V : Type 0} (app : Application V) where
  -- nothing is running at this point of a run, and some task is pending
  pub record BeginsRound (from : RunPoint V) (now : Progress V) : Type 0 where
    pub rest : RestsAt app from now
    pub some : now.nodes ≢ []

  -- the point that a round leads to: all clear tasks have acted, and this text was drained
  abbrev pub next_point : RunPoint V → List ℕ → RunPoint V
  next_point from text = record { start = from.start; state = after_round app from.state; text = text }

  -- such jobs are those of the round, and no task has ended since it began
  pub record IsRoundDrawn (from : RunPoint V) (AreSuch : List (Job V) → Type 0) (old now : Progress V) : Type 0 where
    pub jobs : List (Job V)
    pub such : AreSuch jobs
    pub ending : AreToEnd app (next_point from from.text) now jobs
    pub some : 0 < length jobs
    pub counted : length jobs ≡ length (clear_tasks app from.state)
    pub ended : now.ended ≡ old.ended

  -- the round has led to that point: some task has ended, and in all the clear ones
  pub record IsRoundPlayed (from : RunPoint V) (text : List ℕ) (old now : Progress V) : Type 0 where
    pub rest : RestsAt app (next_point from text) now
    pub some : old.ended < now.ended
    pub counted : now.ended ≡ old.ended + length (clear_tasks app from.state)

  -- the run is at fault, and where it passed the limit, it does with this many ended tasks
  pub record IsEndFault (to : RunPoint V) (many : ℕ) (why : OverCause) : Type 0 where
    pub fault : IsRunFault app to.start why
    pub passes : PassesWith to.start.limit many to.state why

  -- the run is at fault in this round, and where it passed the limit, it does with all clear tasks
  abbrev pub IsRoundFault : RunPoint V → Progress V → OverCause → Type 0
  IsRoundFault from old = IsEndFault (next_point from from.text) (old.ended + length (clear_tasks app from.state))
