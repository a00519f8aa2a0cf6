-- That clear tasks may act before their turn.
use Rattle.std.specs.Prelude.{◌≡◌, ℕ, suc, ◌+◌, true, false, List, [], ◌∷◌, ◌++◌, length, map, Option, Some, None}
use Rattle.std.specs.List.{AllByRecursion}
use Rattle.std.specs.List.Sorted.{IsPermutation}
use Rattle.task_order.specs.declared.task.Task.{Task}
use Rattle.task_order.specs.Key.{Bound, end, is_before}
use Rattle.task_order.specs.TaskList.{HasDistinctKeys}
use Rattle.output_log.specs.Entries.{Entry, entries_before, joined_by_key}
use Rattle.app_laws.specs.Applications.{Application}
use Rattle.app_laws.specs.Execution.{Operator, Execution}
use Rattle.commuting.specs.States.{State, run_from, after_task, after_tasks, entry_of}
use Rattle.commuting.specs.Clear.{IsClear, IsReady}

-- both runs are given up, or both come to an end, and the ends are related
abbrev pub BothEnd : {V : Type 0} → (Execution V → Execution V → Type 0) → Option (Execution V) → Option (Execution V) → Type 0
BothEnd R None None = Unit {0}
BothEnd R None (Some other) = ⊥
BothEnd R (Some e) None = ⊥
BothEnd R (Some e) (Some other) = R e other

-- the first log is the join by key of the second and the entries
abbrev pub LogsMore : {V : Type 0} → List Entry → Execution V → Execution V → Type 0
LogsMore entries e other = e.log ≡ joined_by_key other.log entries

-- the first log is that join, and the cells and the pending tasks are the same
pub record IsSameButLogsMore {V : Type 0} (entries : List Entry) (e other : Execution V) : Type 0 where
  pub cells-are : e.cells ≡ other.cells
  pub pending-are : e.pending ≡ other.pending
  pub log-is : LogsMore entries e other

-- what the tasks log where each of them acts on these cells
abbrev pub entries_of : {V : Type 0} → Operator V → List V → List Task → List Entry
entries_of act cells tasks = map (entry_of act cells) tasks

-- all the tasks are earlier than the bound
abbrev pub AreBefore : Bound → List Task → Type 0
AreBefore bound tasks = AllByRecursion (λ task. is_before task.key bound ≡ true) tasks

module _ {V : Type 0} (app : Application V) where
  -- A task that acts before its turn changes no run: to a bound that is later than the task, the run is one step
  -- shorter and lacks the task's entry; to any other bound it logs the same in as many steps.
  pub record MayActAtOnce (state : State V) (task : Task) : Type 0 where
    pub to_later_bound : (bound : Bound) (limit : ℕ) → is_before task.key bound ≡ true →
        BothEnd (IsSameButLogsMore (entry_of app.act state.cells task ∷ []))
        (run_from app.act (suc limit) bound state)
        (run_from app.act limit bound (after_task app.act task state))
    pub to_other_bound : (bound : Bound) (limit : ℕ) → is_before task.key bound ≡ false →
        BothEnd (λ e other. e.log ≡ other.log)
        (run_from app.act limit bound state)
        (run_from app.act limit bound (after_task app.act task state))

  abbrev pub ClearTasksMayActAtOnce : Type 0
  ClearTasksMayActAtOnce = (state : State V) (task : Task) → IsReady app state → IsClear app state task → MayActAtOnce state task

  -- clear tasks of the state, each once
  pub record AreClear (state : State V) (tasks : List Task) : Type 0 where
    pub distinct : HasDistinctKeys tasks
    pub clear : AllByRecursion (IsClear app state) tasks

  -- from one state to another, the tasks stay clear, and each logs the same where it acts
  pub record StayClear (state now : State V) (tasks : List Task) : Type 0 where
    pub ready : IsReady app now
    pub clear : AreClear now tasks
    pub same_entries : entries_of app.act now.cells tasks ≡ entries_of app.act state.cells tasks

  -- where some clear tasks have acted, the others stay clear
  abbrev pub ClearTasksStayClearInTurn : Type 0
  ClearTasksStayClearInTurn = (state : State V) (tasks others : List Task) → IsReady app state → AreClear state (tasks ++ others) →
      StayClear state (after_tasks app.act tasks state) others

  -- in any order they come to one state
  abbrev pub ClearTasksActInAnyOrder : Type 0
  ClearTasksActInAnyOrder = (state : State V) (tasks others : List Task) → IsReady app state → AreClear state tasks → IsPermutation tasks others →
      after_tasks app.act tasks state ≡ after_tasks app.act others state

  -- Tasks that act before their turn change no run: it is a step shorter for each that is earlier than the bound, and
  -- lacks the entries of these.
  pub record MayAllActAtOnce (state : State V) (tasks : List Task) : Type 0 where
    pub to_end : (limit : ℕ) →
        BothEnd (IsSameButLogsMore (entries_of app.act state.cells tasks))
        (run_from app.act (length tasks + limit) end state)
        (run_from app.act limit end (after_tasks app.act tasks state))
    pub to_later_bound : (bound : Bound) (limit : ℕ) → AreBefore bound tasks →
        BothEnd (IsSameButLogsMore (entries_of app.act state.cells tasks))
        (run_from app.act (length tasks + limit) bound state)
        (run_from app.act limit bound (after_tasks app.act tasks state))
    pub to_any_bound : (bound : Bound) (limit : ℕ) →
        let entries = entries_before bound (entries_of app.act state.cells tasks) in
        BothEnd (LogsMore entries)
        (run_from app.act (length entries + limit) bound state)
        (run_from app.act limit bound (after_tasks app.act tasks state))

  abbrev pub ClearTasksMayAllActAtOnce : Type 0
  ClearTasksMayAllActAtOnce = (state : State V) (tasks : List Task) → IsReady app state → AreClear state tasks → MayAllActAtOnce state tasks
