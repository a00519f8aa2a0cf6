-- What a worker has in hand, and what its turns lead to.
use Rattle.std.specs.Prelude.{◌≡◌, ◌≢◌, ◌⊎◌, ℕ, List, [], ◌∷◌, ◌++◌, map, take, drop, Some, None}
use Rattle.std.specs.List.{AllZip}
use Rattle.task_order.specs.declared.key.Key.{Key}
use Rattle.app_laws.specs.Applications.{Application}
use Rattle.crew.specs.declared.answers.Claim.TheVariants as claim
use Rattle.crew.specs.Jobs.{MayRun}
use Rattle.run_laws.specs.Events.{clear_nodes}
use Rattle.run_laws.specs.Jobs.{Claim, Done, Job}
use Rattle.run_laws.specs.Progress.{Progress}
use Rattle.run_laws.specs.Sound.{IsSound}
use Rattle.graph_update.specs.Engine.{EngineState}
use Rattle.source_pool.specs.Course.{IsJobDone}
use Rattle.worker_gate.specs.Turns.{HallState, SeatState}
use Rattle.free_pool.specs.declared.turns.Next.{Next}
use Rattle.free_pool.specs.declared.turns.Next.TheVariants as next

-- the keys of the tasks of jobs
abbrev pub keys_of : {V : Type 0} → List (Job V) → List Key
keys_of jobs = map (λ job. job.task.key) jobs

-- the jobs that a worker has after a turn: those that it `claimed`, and what it `had` but for the first `ended` ones
abbrev pub jobs_left : {V : Type 0} → List (Job V) → ℕ → List (Job V) → List (Job V)
jobs_left had ended claimed = claimed ++ drop ended had

-- the keys of the tasks that ended in a turn, the first `ended` ones of the jobs that the worker had
abbrev pub keys_ended : {V : Type 0} → List (Job V) → ℕ → List Key
keys_ended had ended = keys_of (take ended had)

-- the worker goes on after a turn
abbrev pub GoesOn : Next → Type 0
GoesOn next.Perform = Unit {0}
GoesOn next.Again = Unit {0}
GoesOn next.Wait = Unit {0}
GoesOn next.Stop = ⊥

-- what a claim's answer leads to
abbrev pub next_after : {V : Type 0} → Claim V → Next
next_after (claim.Over cause) = next.Stop
next_after claim.Ended = next.Stop
next_after claim.NotYet = next.Wait
next_after (claim.Job job) = next.Perform

-- there is something to perform just where that is what the turn leads to
abbrev pub AreToPerform : {V : Type 0} → List (Job V) → Next → Type 0
AreToPerform claimed next.Perform = claimed ≢ []
AreToPerform claimed next.Again = claimed ≡ []
AreToPerform claimed next.Wait = claimed ≡ []
AreToPerform claimed next.Stop = claimed ≡ []

module _ {V : Type 0} (app : Application V) where
  -- the jobs are performed, place by place
  abbrev pub AreDone : List (Job V) → List (Done V) → Type 0
  AreDone jobs dones = AllZip (IsJobDone app) jobs dones

  -- what was performed are jobs of a sound execution, which may have others besides
  pub record MayEnd (now : Progress V) (dones : List (Done V)) : Type 0 where
    pub jobs : List (Job V)
    pub others : List (Job V)
    pub values : List V
    pub sound : IsSound app now (jobs ++ others) values
    pub done : AreDone jobs dones

  -- what a claim adds to the jobs: one that may run, where it gave one, and else nothing
  abbrev pub AreClaimed : List (Job V) → Next → List (Job V) → Type 0
  AreClaimed old next.Perform now = (job : Job V) × MayRun app job × (now ≡ job ∷ old)
  AreClaimed old next.Again now = ⊥
  AreClaimed old next.Wait now = now ≡ old
  AreClaimed old next.Stop now = now ≡ old

  -- A claim tells to wait only while tasks are pending of which none is clear, and no mark stands. It tells to stop only where a mark
  -- stands or no task is pending.
  abbrev pub IsAnswer : Progress V → Next → Type 0
  IsAnswer now next.Perform = Unit {0}
  IsAnswer now next.Again = Unit {0}
  IsAnswer now next.Wait = (now.over ≡ None) × (now.nodes ≢ []) × (clear_nodes app now.nodes ≡ [])
  IsAnswer now next.Stop = (now.over ≢ None) ⊎ (now.nodes ≡ [])

-- the seat is of the hall, and knows its origin
pub record IsSeated {A V : Type 0} (hall : HallState (EngineState A V)) (seat : SeatState (EngineState A V) V) : Type 0 where
  pub here : seat.hall ≡ hall.id
  pub origin_is : seat.view.origin ≡ Some hall.origin
