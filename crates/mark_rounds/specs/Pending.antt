-- The pending tasks of a round with their sets.
use Rattle.std.specs.Prelude.{◌≡◌, ℕ, List, [], ◌∷◌, map, if◌then◌else◌}
use Rattle.std.specs.Borrow.{Bor}
use Rattle.std.specs.Map.Iter.{deref}
use Rattle.task_order.specs.declared.task.Task.{Task}
use Rattle.rw_sets.specs.Accesses.{Accesses, writes}
use Rattle.app_laws.specs.Applications.{Application, set_in}
use Rattle.commuting.specs.Clear.{IsReady}
use Rattle.commuting.specs.States.{State, state_of}
use Rattle.mark_board.specs.Markers.{BoardState, MarkerState}
use Rattle.mark_board.specs.Ranks.{marks_from}
use Rattle.mark_rounds.specs.Board.{IsAlone}

-- tasks, the set of each at its place, and the cells in which these were asked for
pub record MarkedState (V : Type 0) : Type 0 where
  pub tasks : List Task
  pub sets : List Accesses
  pub cells : List V

-- the state with these cells in which the tasks are pending
abbrev pub state_in : {V : Type 0} → MarkedState V → State V
state_in marked = state_of marked.cells marked.tasks

-- the tasks whose sets, at the same places, write the location
abbrev pub writers_among : List Task → List Accesses → ℕ → List Task
writers_among [] sets loc = []
writers_among (task ∷ tasks) [] loc = []
writers_among (task ∷ tasks) (set ∷ sets) loc = if writes set loc then task ∷ writers_among tasks sets loc else writers_among tasks sets loc

-- the tasks that are lent
abbrev pub tasks_in : List (Bor Task) → List Task
tasks_in tasks = map (deref {X = Task}) tasks

-- lent tasks with their sets
abbrev pub marked_state : {V : Type 0} → List (Bor Task) → List Accesses → List V → MarkedState V
marked_state tasks sets cells = record { tasks = tasks_in tasks; sets = sets; cells = cells }

-- the declared sets of the tasks that are lent
abbrev pub sets_in : {V : Type 0} → Application V → List V → List (Bor Task) → List Accesses
sets_in app cells tasks = map (λ task. set_in app cells task.now) tasks

-- each task has marked its declared set with its place, and nothing else is marked
pub record HaveMarked {V : Type 0} (app : Application V) (pending : MarkedState V) (board : BoardState) (marker : MarkerState) : Type 0 where
  pub ready : IsReady app (state_in pending)
  pub sets_are : pending.sets ≡ map (set_in app pending.cells) pending.tasks
  pub alone : IsAlone app.count board marker
  pub marks_are : marker.marks ≡ marks_from 0 pending.sets
