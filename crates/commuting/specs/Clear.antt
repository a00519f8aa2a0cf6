-- Which pending tasks may act although they aren't the earliest.
use Rattle.std.specs.Prelude.{◌≡◌, true, List}
use Rattle.std.specs.List.{AllByRecursion, Contains}
use Rattle.task_order.specs.declared.task.Task.{Task}
use Rattle.task_order.specs.TaskList.{IsAscending}
use Rattle.rw_sets.specs.Accesses.{Accesses, Conflicts}
use Rattle.app_laws.specs.Applications.{Application, AreFitTasks, set_in, tasks_before}
use Rattle.app_laws.specs.Order.{AreApart, Pairwise}
use Rattle.commuting.specs.States.{State}

module _ {V : Type 0} (app : Application V) where
  -- by these sets of the tasks, none of the earlier ones conflicts with the task; and it is safe against them
  pub record IsUnblocked (set_of : Task → Accesses) (tasks : List Task) (task : Task) : Type 0 where
    pub apart : AllByRecursion (λ other. ¬ Conflicts (set_of other) (set_of task)) (tasks_before task.key tasks)
    pub safe : app.is_safe task (tasks_before task.key tasks) ≡ true

  -- a pending task that is unblocked by the declared sets
  pub record IsClear (state : State V) (task : Task) : Type 0 where
    pub pending : Contains state.pending task
    pub unblocked : IsUnblocked (set_in app state.cells) state.pending task

  -- cells and tasks of the application, in ascending order, where no task's path is a prefix of another's
  pub record IsReady (state : State V) : Type 0 where
    pub cells : app.is_fit_cells state.cells
    pub tasks : AreFitTasks app state.pending
    pub ascending : IsAscending state.pending
    pub apart : Pairwise (λ task other. AreApart task.key.path other.key.path) state.pending
