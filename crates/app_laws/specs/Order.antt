-- What keeps the tasks of an execution apart and in order.
use Rattle.std.specs.Prelude.{◌≡◌, ◌≢◌, ◌==◌, ◌&&◌, ℕ, Bool, true, false, List, [], ◌∷◌}
use Rattle.std.specs.List.{AllByRecursion}
use Rattle.std.specs.declared.cmp.Ordering.TheVariants.{Less}
use Rattle.task_order.specs.Key.{key_cmp}
use Rattle.task_order.specs.TaskList.{IsAscending}
use Rattle.app_laws.specs.Execution.{Execution}

-- whether one path goes on from the other, or is the same
abbrev pub is_prefix : List ℕ → List ℕ → Bool
is_prefix [] path = true
is_prefix (number ∷ prefix) [] = false
is_prefix (number ∷ prefix) (other ∷ path) = number == other && is_prefix prefix path

-- neither path is a prefix of the other
pub record AreApart (path other : List ℕ) : Type 0 where
  pub not_before : is_prefix path other ≡ false
  pub not_after : is_prefix other path ≡ false

-- each item is in the relation to each after it
abbrev pub Pairwise : {X : Type 0} → (X → X → Type 0) → List X → Type 0
Pairwise R [] = Unit {0}
Pairwise R (x ∷ xs) = AllByRecursion (R x) xs × Pairwise R xs

-- Each pending task is new: no other task, pending or logged, has its path or goes on from it. What is logged comes
-- earlier than what is pending.
pub record IsOrderly {V : Type 0} (e : Execution V) : Type 0 where
  pub ascending : IsAscending e.pending
  pub apart : Pairwise (λ task other. AreApart task.key.path other.key.path) e.pending
  pub unlogged : AllByRecursion (λ task. AllByRecursion (λ entry. is_prefix task.key.path entry.0.path ≡ false) e.log) e.pending
  pub after_log : AllByRecursion (λ task. AllByRecursion (λ entry. key_cmp entry.0 task.key ≡ Less) e.log) e.pending
  pub log_ascending : Pairwise (λ entry other. key_cmp entry.0 other.0 ≡ Less) e.log
  pub log_differs : Pairwise (λ entry other. entry.0.path ≢ other.0.path) e.log
