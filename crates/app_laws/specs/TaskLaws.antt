-- What is so of the tasks that are created.
use Rattle.std.proofs.Common.{ℕ, List, length, refl, ap, suc, ◌≡◌, ◌∷◌, [], ◌≤◌}
use Rattle.std.specs.List.{AllByRecursion}
use Rattle.task_order.specs.declared.key.Key.{Key}
use Rattle.task_order.specs.declared.start.Start.{Start}
use Rattle.task_order.specs.Key.{child_key}
use Rattle.task_order.specs.declared.task.Task.{Task}
use Rattle.app_laws.specs.Execution.{children_from, first_from}

pub length-children_from : (parent : Key) (number : ℕ) (children : List Start) → length (children_from parent number children) ≡ length children
length-children_from parent number [] = refl
length-children_from parent number (child ∷ children) = ap suc (length-children_from parent (suc number) children)

pub length-first_from : (number : ℕ) (first : List Start) → length (first_from number first) ≡ length first
length-first_from number [] = refl
length-first_from number (start ∷ first) = ap suc (length-first_from (suc number) first)

-- what holds of the key of each child holds of all children
pub all_children : (P : Key → Type 0) (parent : Key) → ((number prio : ℕ) → parent.prio ≤ prio → P (child_key parent number prio)) → (number : ℕ) (starts : List Start)
    → AllByRecursion (λ (start : Start). parent.prio ≤ start.prio) starts → AllByRecursion (λ (task : Task). P task.key) (children_from parent number starts)
all_children P parent each number [] later = tt
all_children P parent each number (start ∷ starts) later = (each number start.prio later.0, all_children P parent each (suc number) starts later.1)
