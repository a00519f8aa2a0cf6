-- Seats of a hall whose workers have one job at most.
use Rattle.std.specs.Prelude.{◌≡◌, Bool, true, false, List, [], ◌∷◌, map, Option, Some, None}
use Rattle.task_order.specs.declared.key.Key.{Key}
use Rattle.app_laws.specs.Applications.{Application, IsEffect}
use Rattle.run_laws.specs.Answers.{jobs_after}
use Rattle.run_laws.specs.Jobs.{Claim, Done, Job}
use Rattle.graph_update.specs.Engine.{EngineState}
use Rattle.worker_gate.specs.Turns.{HallState, SeatState}

-- the jobs after a claim, which had no answer where memory ran out
abbrev pub jobs_claimed : {V : Type 0} → Option (Claim V) → List (Job V) → List (Job V)
jobs_claimed None jobs = jobs
jobs_claimed (Some claim) jobs = jobs_after claim jobs

-- the jobs after the end of the only job's task, or its refusal
abbrev pub jobs_left : {V : Type 0} → Bool → List (Job V) → List (Job V)
jobs_left true jobs = []
jobs_left false jobs = jobs

-- the keys that ended
abbrev pub keys_ended : {V : Type 0} → Bool → List (Job V) → List Key
keys_ended true jobs = map (λ job. job.task.key) jobs
keys_ended false jobs = []

-- what is done is the only job
pub record IsOnlyJob {V : Type 0} (app : Application V) (jobs : List (Job V)) (done : Done V) : Type 0 where
  pub job : Job V
  pub only : jobs ≡ job ∷ []
  pub node : job.node ≡ done.node
  pub task : job.task ≡ done.task
  pub effect : IsEffect app job.task job.bundle done.effect

module _ {A V : Type 0} (hall : HallState (EngineState A V)) where
  abbrev Seat : Type 0
  Seat = SeatState (EngineState A V) V

  -- the seat is of the hall, and knows its origin
  pub record IsSeated (seat : Seat) : Type 0 where
    pub here : seat.hall ≡ hall.id
    pub origin_is : seat.view.origin ≡ Some hall.origin

  -- a worker that has this application in hand may work at the hall, in this seat
  pub record MayWork (app : A) (seat : Seat) : Type 0 where
    pub seated : IsSeated seat
    pub app_is : app ≡ hall.origin.app
    pub idle : seat.view.jobs ≡ []

  -- after some turns the seat is of the hall still, with its number and what was split from it
  pub record HasWorked (old now : Seat) : Type 0 where
    pub seated : IsSeated now
    pub number : now.view.number ≡ old.view.number
    pub unjoined : now.view.unjoined ≡ old.view.unjoined

  -- after a turn it has these jobs besides
  pub record IsLeftBy (old : Seat) (jobs : List (Job V)) (now : Seat) : Type 0 where
    pub worked : HasWorked old now
    pub jobs_are : now.view.jobs ≡ jobs
