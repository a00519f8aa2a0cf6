-- What leads from one execution to another, and the keys of the tasks that ended on the way.
use Rattle.std.specs.Prelude.{◌≡◌, ℕ, List, [], ◌∷◌, ◌++◌, Some}
use Rattle.task_order.specs.declared.key.Key.{Key}
use Rattle.app_laws.specs.Applications.{Application}
use Rattle.crew.specs.declared.answers.OverCause.{OverCause}
use Rattle.crew.specs.Jobs.{IsPerformed}
use Rattle.run_laws.specs.Answers.{IsClaimAnswer, IsFinishRefusal, jobs_after}
use Rattle.run_laws.specs.CourseLaws.{ended_by}
use Rattle.run_laws.specs.Events.{IsFinished, IsOverLimit, drained, marked}
use Rattle.run_laws.specs.Jobs.{Claim, Done, FinishFault, Job}
use Rattle.run_laws.specs.Laws.{Event, Reaches}
use Rattle.run_laws.specs.Progress.{Progress}

module _ {V : Type 0} (app : Application V) where
  -- claims, ends, drains and givings up lead from one execution and the jobs in hand to another, and these keys ended
  pub record Moved (old : Progress V) (had : List (Job V)) (now : Progress V) (have : List (Job V)) (ended : List Key) : Type 0 where
    pub events : List (Event V)
    pub reaches : Reaches app events (record { progress = old; jobs = had }) (record { progress = now; jobs = have })
    pub ended_are : ended_by events ≡ ended

  -- where nothing happens, no key ends
  abbrev pub StaysAreMoves : Type 0
  StaysAreMoves = (now : Progress V) (jobs : List (Job V)) → Moved now jobs now jobs []

  -- one move after the other is a move
  abbrev pub MovesFollow : Type 0
  MovesFollow = (old mid now : Progress V) (had held have : List (Job V)) (first second : List Key) →
      Moved old had mid held first → Moved mid held now have second → Moved old had now have (first ++ second)

  -- so is whatever a claim answers, with the job that it gave besides
  abbrev pub ClaimAnswersMove : Type 0
  ClaimAnswersMove = (old now : Progress V) (pick : ℕ) (answer : Claim V) (jobs : List (Job V)) →
      IsClaimAnswer app old pick now answer → Moved old jobs now (jobs_after answer jobs) []

  -- the end of a task, with its job less and its key more
  abbrev pub EndsMove : Type 0
  EndsMove = (old now : Progress V) (done : Done V) (job : Job V) (jobs others : List (Job V)) →
      IsPerformed app jobs done job others → ¬ IsOverLimit app old done → IsFinished app old done now → Moved old jobs now others (done.task.key ∷ [])

  -- the refusal of an end, with the jobs as they were
  abbrev pub RefusalsMove : Type 0
  RefusalsMove = (old now : Progress V) (done : Done V) (fault : FinishFault V) (job : Job V) (jobs others : List (Job V)) →
      IsPerformed app jobs done job others → IsFinishRefusal app old done now fault → Moved old jobs now jobs []

  abbrev pub DrainsMove : Type 0
  DrainsMove = (now : Progress V) (jobs : List (Job V)) → Moved now jobs (drained app now) jobs []

  abbrev pub GivingUpMoves : Type 0
  GivingUpMoves = (now : Progress V) (jobs : List (Job V)) → Moved now jobs (marked app now OverCause.NoRoom) jobs []

  -- a mark that stands stays
  abbrev pub MarksStay : Type 0
  MarksStay = (old now : Progress V) (had have : List (Job V)) (ended : List Key) (cause : OverCause) →
      Moved old had now have ended → old.over ≡ Some cause → now.over ≡ Some cause
