-- The states of an execution, and what acting out of turn makes of them.
use Rattle.std.specs.Prelude.{ℕ, List, Option, [], ◌∷◌}
use Rattle.task_order.specs.declared.key.Key.{Key}
use Rattle.task_order.specs.declared.task.Task.{Task}
use Rattle.task_order.specs.Key.{Bound}
use Rattle.task_order.specs.TaskList.{put_all, without}
use Rattle.app_laws.specs.Execution.{Operator, Execution, children_from, run_until}

-- cells, and the tasks that are pending on them
pub record State (V : Type 0) : Type 0 where
  pub cells : List V
  pub pending : List Task

abbrev pub state_of : {V : Type 0} → List V → List Task → State V
state_of cells pending = record { cells = cells; pending = pending }

-- the execution from a state on, with nothing logged yet
abbrev pub execution_from : {V : Type 0} → State V → Execution V
execution_from state = record { cells = state.cells; pending = state.pending; log = [] }

-- the run from a state to a bound, within `limit` steps
abbrev pub run_from : {V : Type 0} → Operator V → ℕ → Bound → State V → Option (Execution V)
run_from act limit bound state = run_until act limit bound (execution_from state)

-- one of the pending tasks acts, wherever it stands among them: it leaves them, and its children come in
abbrev pub after_task : {V : Type 0} → Operator V → Task → State V → State V
after_task act task state = record {
  cells = (act task state.cells).cells;
  pending = put_all (children_from task.key 0 (act task state.cells).children) (without task.key state.pending);
}

-- the tasks act, one after another
abbrev pub after_tasks : {V : Type 0} → Operator V → List Task → State V → State V
after_tasks act [] state = state
after_tasks act (task ∷ tasks) state = after_tasks act tasks (after_task act task state)

-- what a task logs where it acts on the cells
abbrev pub entry_of : {V : Type 0} → Operator V → List V → Task → Key × List ℕ
entry_of act cells task = (task.key, (act task cells).text)
