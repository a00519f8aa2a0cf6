-- Lists of tasks in the order of their keys.
use Rattle.std.specs.Prelude.{◌≡◌, ◌≢◌, Bool, not, if◌then◌else◌, List, [], ◌∷◌}
use Rattle.std.specs.List.{AllByRecursion, filter}
use Rattle.std.specs.declared.cmp.Ordering.TheVariants.{Less}
use Rattle.std.specs.Ordering.{is_lt, is_eq}
use Rattle.task_order.specs.declared.key.Key.{Key}
use Rattle.task_order.specs.declared.task.Task.{Task}
use Rattle.task_order.specs.Key.{key_cmp}

-- each task is earlier than those after it
abbrev pub IsAscending : List Task → Type 0
IsAscending [] = Unit {0}
IsAscending (task ∷ tasks) = AllByRecursion (λ other. key_cmp task.key other.key ≡ Less) tasks × IsAscending tasks

-- no task has the key
abbrev pub IsNewKey : Key → List Task → Type 0
IsNewKey key tasks = AllByRecursion (λ other. other.key ≢ key) tasks

-- no two tasks have one key
abbrev pub HasDistinctKeys : List Task → Type 0
HasDistinctKeys [] = Unit {0}
HasDistinctKeys (task ∷ tasks) = IsNewKey task.key tasks × HasDistinctKeys tasks

-- the tasks with one more, after those that are earlier
abbrev pub put_in : Task → List Task → List Task
put_in task [] = task ∷ []
put_in task (other ∷ tasks) = if is_lt (key_cmp other.key task.key) then other ∷ put_in task tasks else task ∷ other ∷ tasks

-- the tasks with each of the new ones put in
abbrev pub put_all : List Task → List Task → List Task
put_all [] tasks = tasks
put_all (task ∷ new) tasks = put_all new (put_in task tasks)

-- whether a task is earlier than the key
abbrev pub is_earlier : Key → Task → Bool
is_earlier key task = is_lt (key_cmp task.key key)

-- the tasks that are earlier than the key
abbrev pub tasks_before : Key → List Task → List Task
tasks_before key tasks = filter (is_earlier key) tasks

-- the other tasks
abbrev pub tasks_from : Key → List Task → List Task
tasks_from key tasks = filter (λ task. not (is_earlier key task)) tasks

-- whether a task has the key
abbrev pub has_key : Key → Task → Bool
has_key key task = is_eq (key_cmp task.key key)

-- the tasks that have other keys
abbrev pub without : Key → List Task → List Task
without key tasks = filter (λ task. not (has_key key task)) tasks
