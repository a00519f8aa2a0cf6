-- Pending tasks that don't touch one another.
use Rattle.std.specs.Prelude.{◌≡◌, ◌≢◌, List, ◌∷◌}
use Rattle.std.specs.List.{Contains}
use Rattle.task_order.specs.declared.task.Task.{Task}
use Rattle.rw_sets.specs.Accesses.{Conflicts}
use Rattle.app_laws.specs.Applications.{Application, AgreeOn, IsSameOutcome, set_in}
use Rattle.commuting.specs.States.{State, state_of, after_task}
use Rattle.commuting.specs.Clear.{IsClear, IsReady}

module _ {V : Type 0} (app : Application V) where
  -- two pending tasks whose sets don't conflict
  pub record AreIndependentTasks (state : State V) (task other : Task) : Type 0 where
    pub task_pending : Contains state.pending task
    pub other_pending : Contains state.pending other
    pub differ : task.key ≢ other.key
    pub apart : ¬ Conflicts (set_in app state.cells task) (set_in app state.cells other)

  -- where a pending task has acted, the state is ready again
  abbrev pub StaysReady : Type 0
  StaysReady = (state : State V) (task : Task) → IsReady app state → Contains state.pending task → IsReady app (after_task app.act task state)

  -- independent tasks may act in either order
  abbrev pub IndependentTasksCommute : Type 0
  IndependentTasksCommute = (state : State V) (task other : Task) → IsReady app state → AreIndependentTasks state task other →
      after_task app.act other (after_task app.act task state) ≡ after_task app.act task (after_task app.act other state)

  -- from one state to another, the task stays pending with the same set and the same cells in it, of which it makes the same
  pub record IsLeftAlone (state now : State V) (task : Task) : Type 0 where
    pub pending : Contains now.pending task
    pub same_cells : AgreeOn (set_in app state.cells task) state.cells now.cells
    pub same_set : set_in app now.cells task ≡ set_in app state.cells task
    pub same_outcome : IsSameOutcome app (set_in app state.cells task) (app.act task state.cells) (app.act task now.cells)

  abbrev pub IndependentTasksLeaveAlone : Type 0
  IndependentTasksLeaveAlone = (state : State V) (task other : Task) → IsReady app state → AreIndependentTasks state task other →
      IsLeftAlone state (after_task app.act task state) other

  -- a clear task stays clear where an independent one acts, be that clear or not
  abbrev pub ClearTasksStayClear : Type 0
  ClearTasksStayClear = (state : State V) (task other : Task) → IsReady app state → AreIndependentTasks state task other → IsClear app state other →
      IsClear app (after_task app.act task state) other

  abbrev pub ClearTasksAreIndependent : Type 0
  ClearTasksAreIndependent = (state : State V) (task other : Task) → IsReady app state → IsClear app state task → IsClear app state other → task.key ≢ other.key →
      AreIndependentTasks state task other

  -- the earliest pending task is clear
  abbrev pub EarliestIsClear : Type 0
  EarliestIsClear = (cells : List V) (task : Task) (others : List Task) →
      IsReady app (state_of cells (task ∷ others)) → IsClear app (state_of cells (task ∷ others)) task
