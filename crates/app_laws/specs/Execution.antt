-- The sequential execution of an ordered algorithm: the earliest pending task acts, until none is pending.
use Rattle.std.specs.Prelude.{ℕ, zero, suc, ◌+◌, List, [], ◌∷◌, ◌++◌, length, Bool, not, if◌then◌else◌, Option, Some, None}
use Rattle.std.specs.List.{list_any}
use Rattle.std.specs.Option.{option_map, option_or}
use Rattle.task_order.specs.declared.key.Key.{Key}
use Rattle.task_order.specs.declared.start.Start.{Start}
use Rattle.task_order.specs.declared.task.Task.{Task}
use Rattle.task_order.specs.Key.{Bound, end, is_before, child_key}
use Rattle.task_order.specs.TaskList.{put_all}
use Rattle.output_log.specs.Entries.{Entry}

-- what a task does: the cells after it, its children in order, and the text that it writes
pub record Outcome (V : Type 0) : Type 0 where
  pub cells : List V
  pub children : List Start
  pub text : List ℕ

-- what each task does to each list of cells
abbrev pub Operator : Type 0 → Type 0
Operator V = Task → List V → Outcome V

-- the cells, the pending tasks in ascending order, and the key and the text of each task that has acted, in the order of acting
pub record Execution (V : Type 0) : Type 0 where
  pub cells : List V
  pub pending : List Task
  pub log : List Entry

-- the children as tasks, numbered from a number on: each has its parent's path, and then its number
abbrev pub children_from : Key → ℕ → List Start → List Task
children_from parent number [] = []
children_from parent number (child ∷ children) =
    record { key = child_key parent number child.prio; body = child.body } ∷ children_from parent (suc number) children

-- the first tasks, numbered from a number on: the path of each is its number alone
abbrev pub first_from : ℕ → List Start → List Task
first_from number [] = []
first_from number (start ∷ others) =
    record { key = record { prio = start.prio; path = number ∷ [] }; body = start.body } ∷ first_from (suc number) others

-- nothing has acted
abbrev pub start_of : {V : Type 0} → List V → List Start → Execution V
start_of cells first = record { cells = cells; pending = put_all (first_from 0 first) []; log = [] }

-- the first task of the list acts, and the others stay pending
abbrev pub acts : {V : Type 0} → Operator V → Execution V → List Task → Execution V
acts act e [] = e
acts act e (task ∷ others) = record {
  cells = (act task e.cells).cells;
  pending = put_all (children_from task.key 0 (act task e.cells).children) others;
  log = e.log ++ (task.key, (act task e.cells).text) ∷ [];
}

-- one step: the earliest pending task acts; where nothing is pending, nothing happens
abbrev pub step : {V : Type 0} → Operator V → Execution V → Execution V
step act e = acts act e e.pending

-- the execution after that many steps
unfoldable pub after_steps : {V : Type 0} → Operator V → ℕ → Execution V → Execution V
after_steps act zero e = e
after_steps act (suc steps) e = step act (after_steps act steps e)

-- whether no pending task is earlier than the bound
abbrev pub is_clear_before : {V : Type 0} → Bound → Execution V → Bool
is_clear_before bound e = not (list_any (λ task. is_before task.key bound) e.pending)

-- the least number of steps, up to a limit, after which no pending task is earlier than the bound
unfoldable pub steps_until : {V : Type 0} → Operator V → ℕ → Bound → Execution V → Option ℕ
steps_until act zero bound e = if is_clear_before bound e then Some 0 else None
steps_until act (suc limit) bound e =
    option_or (steps_until act limit bound e) (if is_clear_before bound (after_steps act (suc limit) e) then Some (suc limit) else None)

-- the execution after that number of steps, where there is one
abbrev pub run_until : {V : Type 0} → Operator V → ℕ → Bound → Execution V → Option (Execution V)
run_until act limit bound e = option_map (λ steps. after_steps act steps e) (steps_until act limit bound e)

-- the execution to its end, where at most limit tasks have to act
abbrev pub run_to_end : {V : Type 0} → Operator V → ℕ → Execution V → Option (Execution V)
run_to_end act limit e = run_until act limit end e

-- how many tasks have been created: those that have acted and those that are pending
abbrev pub created_by : {V : Type 0} → Execution V → ℕ
created_by e = length e.log + length e.pending

abbrev pub created_after : {V : Type 0} → Operator V → ℕ → Execution V → ℕ
created_after act steps e = created_by (after_steps act steps e)
