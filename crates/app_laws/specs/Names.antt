-- Tasks under other paths, where nothing else is another.
use Rattle.std.specs.Prelude.{◌≡◌, ℕ, Bool, true, List, [], ◌∷◌, ◌++◌, map}
use Rattle.std.specs.Cmp.Lexicographic.{slice_cmp}
use Rattle.std.specs.List.{AllByRecursion}
use Rattle.std.specs.List.Sorted.{IsPermutation}
use Rattle.std.specs.Ordering.{nat_cmp}
use Rattle.std.specs.declared.cmp.Ordering.TheVariants.{Less}
use Rattle.task_order.specs.declared.start.Start.{Start}
use Rattle.task_order.specs.declared.task.Task.{Task}
use Rattle.app_laws.specs.Order.{Pairwise}

-- the task with this path
abbrev pub with_path : List ℕ → Task → Task
with_path path task = record { key = record { prio = task.key.prio; path = path }; body = task.body }

-- the task with the name of its path in place of it
abbrev pub renamed : (List ℕ → List ℕ) → Task → Task
renamed name task = with_path (name task.key.path) task

-- Some paths have names, and so have those that go on from them. Names go on and are in order as the paths are.
pub record IsNaming (name : List ℕ → List ℕ) (has_name : List ℕ → Bool) : Type 0 where
  pub have_too : (path : List ℕ) (number : ℕ) → has_name path ≡ true → has_name (path ++ number ∷ []) ≡ true
  pub go_on : (path : List ℕ) (number : ℕ) → has_name path ≡ true → name (path ++ number ∷ []) ≡ name path ++ number ∷ []
  pub in_order : (path other : List ℕ) → has_name path ≡ true → has_name other ≡ true → slice_cmp nat_cmp (name path) (name other) ≡ slice_cmp nat_cmp path other

-- the tasks have paths that have names
abbrev pub HaveNames : (List ℕ → Bool) → List Task → Type 0
HaveNames has_name tasks = AllByRecursion (λ task. has_name task.key.path ≡ true) tasks

-- the priority and the body of a task
abbrev pub start_of_task : Task → Start
start_of_task task = record { prio = task.key.prio; body = task.body }

-- the priorities and bodies of the tasks, in the order of their paths
pub record AreListed (pending : List Task) (first : List Start) : Type 0 where
  pub tasks : List Task
  pub same : IsPermutation pending tasks
  pub by_path : Pairwise (λ task other. slice_cmp nat_cmp task.key.path other.key.path ≡ Less) tasks
  pub starts : first ≡ map start_of_task tasks
