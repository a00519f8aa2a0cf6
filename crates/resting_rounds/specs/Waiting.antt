-- Pending tasks, and what each of them watches.
use Rattle.std.specs.Prelude.{◌≡◌, ◌<◌, ℕ, false, not, Bool, List, Option, Some, None, map, take, IsSomeAnd, if◌then◌else◌}
use Rattle.std.specs.List.{AllByRecursion, filter}
use Rattle.task_order.specs.declared.task.Task.{Task}
use Rattle.task_order.specs.TaskList.{tasks_before}
use Rattle.cell_store.specs.declared.cell.Cell.{Cell}
use Rattle.cell_store.specs.Values.{values_of}
use Rattle.app_laws.specs.Applications.{Application}
use Rattle.commuting.specs.Rounds.{is_clear}
use Rattle.commuting.specs.States.{State, state_of}
use Rattle.resting_rounds.specs.declared.waiting.Waiting.{Waiting}
use Rattle.resting_rounds.specs.Sets.{MeetAt}

-- the tasks, and the first of them
abbrev pub tasks_of : List Waiting → List Task
tasks_of waiting = map (λ one. one.task.now) waiting

abbrev pub first_tasks : ℕ → List Waiting → List Task
first_tasks count waiting = take count (tasks_of waiting)

-- the location that is watched, unless it is one of these
abbrev pub still_watched : (ℕ → Bool) → Option ℕ → Option ℕ
still_watched acted None = None
still_watched acted (Some loc) = if acted loc then None else Some loc

-- the state with the cells of a store, in which these tasks are pending
abbrev pub state_in : {V : Type 0} → List (Cell V) → List Waiting → State V
state_in store waiting = state_of (values_of store) (tasks_of waiting)

module _ {V : Type 0} (app : Application V) where
  -- the tasks that aren't clear, in key order
  abbrev pub blocked : State V → List Task → List Task
  blocked state tasks = filter (λ task. not (is_clear app state task)) tasks

  -- the task meets an earlier pending one at the location
  abbrev pub MeetsEarlierAt : State V → Task → ℕ → Type 0
  MeetsEarlierAt state task loc = MeetAt app state.cells (tasks_before task.key state.pending) task loc

  -- a task that watches a location where it meets an earlier pending one
  abbrev pub Rests : State V → Waiting → Type 0
  Rests state one = IsSomeAnd one.watched (MeetsEarlierAt state one.task.now)

  -- what it watches, if anything, is a location of the application, and unless it is one of these, the task meets an earlier
  -- pending one there
  pub record MayRest (acted : ℕ → Bool) (state : State V) (one : Waiting) : Type 0 where
    pub below : (loc : ℕ) → one.watched ≡ Some loc → loc < app.count
    pub meets : (loc : ℕ) → one.watched ≡ Some loc → acted loc ≡ false → MeetsEarlierAt state one.task.now loc

  -- the pending tasks of the state, each of which may rest unless it watches one of these locations
  pub record AreWaiting (acted : ℕ → Bool) (state : State V) (waiting : List Waiting) : Type 0 where
    pub tasks : tasks_of waiting ≡ state.pending
    pub each : AllByRecursion (MayRest acted state) waiting
