-- What an execution comes to where its tasks have other paths.
use Rattle.std.specs.Prelude.{◌≡◌, ℕ, Bool, List, [], map}
use Rattle.std.specs.Option.{option_map}
use Rattle.task_order.specs.declared.start.Start.{Start}
use Rattle.task_order.specs.declared.task.Task.{Task}
use Rattle.task_order.specs.TaskList.{IsAscending, put_all}
use Rattle.output_log.specs.Entries.{Entry}
use Rattle.app_laws.specs.Applications.{Application}
use Rattle.app_laws.specs.Execution.{Execution, first_from, run_to_end}
use Rattle.app_laws.specs.Laws.{IsFitExecution}
use Rattle.app_laws.specs.Names.{AreListed, IsNaming, renamed}
pub use Rattle.app_laws.specs.Names.{HaveNames}
use Rattle.app_laws.specs.Order.{AreApart, Pairwise}

-- the entry with the name of its task's path in place of it
abbrev pub renamed_entry : (List ℕ → List ℕ) → Entry → Entry
renamed_entry name entry = (record { prio = entry.0.prio; path = name entry.0.path }, entry.1)

-- the execution with names in place of paths
abbrev pub renamed_execution : {V : Type 0} → (List ℕ → List ℕ) → Execution V → Execution V
renamed_execution name e = record { cells = e.cells; pending = map (renamed name) e.pending; log = map (renamed_entry name) e.log }

-- under names an execution comes to the same end
abbrev pub NamesChangeNoRun : {V : Type 0} → Application V → Type 0
NamesChangeNoRun {V} app = (name : List ℕ → List ℕ) (has_name : List ℕ → Bool) → IsNaming name has_name →
    (e : Execution V) → IsFitExecution app e → HaveNames has_name e.pending →
    (limit : ℕ) → run_to_end app.act limit (renamed_execution name e) ≡ option_map (renamed_execution name) (run_to_end app.act limit e)

-- Names for the paths of the tasks, by which these are the first tasks.
pub record AreNamed (pending : List Task) (first : List Start) : Type 0 where
  pub name : List ℕ → List ℕ
  pub has_name : List ℕ → Bool
  pub naming : IsNaming name has_name
  pub have_names : HaveNames has_name pending
  pub are_first : map (renamed name) pending ≡ put_all (first_from 0 first) []

-- pending tasks that are listed in the order of their paths have names, by which they are first tasks
abbrev pub ListedTasksAreNamed : Type 0
ListedTasksAreNamed = (pending : List Task) (first : List Start) → IsAscending pending → Pairwise (λ task other. AreApart task.key.path other.key.path) pending →
    AreListed pending first → AreNamed pending first
