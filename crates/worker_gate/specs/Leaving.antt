-- What each call of an engine in a turn adds to what was done in it, as the condition of leaving it says.
use Rattle.std.specs.Prelude.{◌≡◌, ℕ, List, [], ◌∷◌, ◌++◌, Some}
use Rattle.task_order.specs.declared.key.Key.{Key}
use Rattle.app_laws.specs.Applications.{Application}
use Rattle.crew.specs.declared.answers.OverCause.{OverCause}
use Rattle.crew.specs.Jobs.{IsPerformed}
use Rattle.run_laws.specs.Answers.{IsClaimAnswer, IsFinishRefusal, jobs_after}
use Rattle.run_laws.specs.Events.{IsFinished, IsOverLimit, drained, marked}
use Rattle.run_laws.specs.Jobs.{Claim, Done, FinishFault, Job}
use Rattle.graph_update.specs.Engine.{EngineState}
use Rattle.worker_gate.specs.Turns.{HasMoved, MayLeave, TurnState, with_engine}

module _ {A V : Type 0} (meaning : A → Application V) where
  abbrev Turn : Type 0
  Turn = TurnState (EngineState A V) V

  -- in the turn this was done to the engine that it found, and then one call more, before which the engine was this one
  pub record IsCalled (turn : Turn) (before : EngineState A V) (jobs : List (Job V)) (ended : List Key) (found : EngineState A V) : Type 0 where
    pub moved : HasMoved meaning (with_engine turn before) jobs ended found
    pub app : turn.engine.app ≡ before.app

  -- a turn may be left by what was done in it
  abbrev pub MovedMayLeave : Type 0
  MovedMayLeave = (turn : Turn) (jobs : List (Job V)) (ended : List Key) (found : EngineState A V) → turn.view.found ≡ Some found → HasMoved meaning turn jobs ended found → MayLeave meaning turn jobs ended

  -- at first nothing was done
  abbrev pub NothingIsDone : Type 0
  NothingIsDone = (turn : Turn) → HasMoved meaning turn turn.view.jobs [] turn.engine

  -- a claim adds the job that it gave
  abbrev pub ClaimsAdd : Type 0
  ClaimsAdd = (turn : Turn) (before found : EngineState A V) (jobs : List (Job V)) (ended : List Key) (pick : ℕ) (answer : Claim V) →
      IsCalled turn before jobs ended found → IsClaimAnswer (meaning before.app) before.progress pick turn.engine.progress answer →
      HasMoved meaning turn (jobs_after answer jobs) ended found

  -- the end of a task takes its job away and adds its key
  abbrev pub EndsAdd : Type 0
  EndsAdd = (turn : Turn) (before found : EngineState A V) (jobs : List (Job V)) (ended : List Key) (done : Done V) (job : Job V) (others : List (Job V)) →
      IsCalled turn before jobs ended found → IsPerformed (meaning before.app) jobs done job others →
      ¬ IsOverLimit (meaning before.app) before.progress done → IsFinished (meaning before.app) before.progress done turn.engine.progress →
      HasMoved meaning turn others (ended ++ done.task.key ∷ []) found

  -- the refusal of an end, and a giving up, leave jobs and keys as they were
  abbrev pub RefusalsAdd : Type 0
  RefusalsAdd = (turn : Turn) (before found : EngineState A V) (jobs : List (Job V)) (ended : List Key) (done : Done V) (fault : FinishFault V) (job : Job V) (others : List (Job V)) →
      IsCalled turn before jobs ended found → IsPerformed (meaning before.app) jobs done job others →
      IsFinishRefusal (meaning before.app) before.progress done turn.engine.progress fault →
      HasMoved meaning turn jobs ended found

  abbrev pub GivingUpAdds : Type 0
  GivingUpAdds = (turn : Turn) (before found : EngineState A V) (jobs : List (Job V)) (ended : List Key) →
      IsCalled turn before jobs ended found → turn.engine.progress ≡ marked (meaning before.app) before.progress OverCause.NoRoom →
      HasMoved meaning turn jobs ended found

  -- so does a drain, which only the first seat may do
  abbrev pub DrainsAdd : Type 0
  DrainsAdd = (turn : Turn) (before found : EngineState A V) (jobs : List (Job V)) (ended : List Key) → turn.view.number ≡ 0 →
      IsCalled turn before jobs ended found → turn.engine.progress ≡ drained (meaning before.app) before.progress →
      HasMoved meaning turn jobs ended found
