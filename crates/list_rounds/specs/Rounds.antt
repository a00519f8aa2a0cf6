-- Runs in rounds as their callers see them, and what their calls answer.
use Rattle.std.specs.Prelude.{◌≡◌, ◌<◌, ◌≤◌, ◌+◌, ◌⊎◌, ℕ, List, [], ◌∷◌, length, None}
use Rattle.task_order.specs.declared.start.Start.{Start}
use Rattle.task_order.specs.declared.task.Task.{Task}
use Rattle.task_order.specs.Key.{end}
use Rattle.task_order.specs.TaskList.{put_all}
use Rattle.app_laws.specs.Applications.{Application}
use Rattle.app_laws.specs.Execution.{first_from}
use Rattle.commuting.specs.Clear.{IsReady}
use Rattle.commuting.specs.Rounds.{TakesRounds, after_round}
use Rattle.commuting.specs.States.{State, after_task, run_from, state_of}
use Rattle.crew.specs.declared.answers.OverCause.{OverCause}
use Rattle.crew.specs.declared.answers.OverCause.TheVariants as cause

-- the greatest number of tasks that an execution may be allowed
abbrev pub most_tasks : ℕ
most_tasks = 1_000_000_000

-- a run between two of its rounds: its application, the state that it began with, and how many tasks it may create; the number of
-- rounds that led from there to the state now, and how many tasks have ended
pub record RoundsState (A : Type 0) (V : Type 0) : Type 0 where
  pub app : A
  pub start : State V
  pub limit : ℕ
  pub rounds : ℕ
  pub state : State V
  pub ended : ℕ

-- the state that an execution begins with
abbrev pub start_state : {V : Type 0} → List V → List Start → State V
start_state cells first = state_of cells (put_all (first_from 0 first) [])

-- a run before its first round
abbrev pub begun : {A V : Type 0} → A → State V → ℕ → RoundsState A V
begun app start limit = record { app = app; start = start; limit = limit; rounds = 0; state = start; ended = 0 }

module _ {V : Type 0} (app : Application V) where
  -- the sequential execution from the start doesn't end within the limit
  pub record IsOverLimit (start : State V) (limit created most : ℕ) : Type 0 where
    pub too_long : run_from app.act limit end start ≡ None
    pub limit_is : most ≡ limit
    pub above : limit < created

  -- too many tasks; want of memory may come at any time
  abbrev pub IsRunFault : State V → ℕ → OverCause → Type 0
  IsRunFault start limit (cause.Budget created most) = IsOverLimit start limit created most
  IsRunFault start limit cause.NoRoom = Unit {0}

  -- where tasks act in turn from a state, and `ended` had ended before, `created` is the number of tasks when first they are more than the limit
  abbrev pub PassesLimit : State V → ℕ → ℕ → List Task → ℕ → Type 0
  PassesLimit state ended limit [] created = ⊥
  PassesLimit state ended limit (task ∷ tasks) created =
      let next = after_task app.act task state in
      ((created ≡ ended + 1 + length next.pending) × (limit < created)) ⊎ ((ended + 1 + length next.pending ≤ limit) × PassesLimit next (ended + 1) limit tasks created)

  -- the fault of a round in which these tasks act in turn; want of memory may come at any time
  abbrev pub IsRoundFault : {A : Type 0} → RoundsState A V → List Task → OverCause → Type 0
  IsRoundFault run tasks (cause.Budget created most) = PassesLimit run.state run.ended run.limit tasks created
  IsRoundFault run tasks cause.NoRoom = Unit {0}

  -- what is kept of every run: its state is ready, and no more tasks than the limit have ended or are pending
  pub record IsKept {A : Type 0} (run : RoundsState A V) : Type 0 where
    pub ready : IsReady app run.state
    pub within : run.ended + length run.state.pending ≤ run.limit
    pub limited : run.limit ≤ most_tasks
    pub rounds : (more : ℕ) → TakesRounds app more run.state → TakesRounds app (run.rounds + more) run.start

  -- the run after one round more
  pub record IsNext {A : Type 0} (old now : RoundsState A V) : Type 0 where
    pub same_app : now.app ≡ old.app
    pub same_start : now.start ≡ old.start
    pub same_limit : now.limit ≡ old.limit
    pub one_round : now.rounds ≡ old.rounds + 1
    pub state : now.state ≡ after_round app old.state
    pub some_ended : old.ended < now.ended
