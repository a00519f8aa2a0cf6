-- What is so of tasks whose paths are apart: neither is a prefix of the other.
use Rattle.std.proofs.Common.{Bool, List, [], ap, cond, eq-eqb, false, nat_eq, refl, sym, true, ℕ, ◌++◌, ◌∙◌, ◌∷◌, ◌≡◌, ◌≢◌}
use Rattle.std.proofs.lemmas.Bool.{and_from, true≢false}
use Rattle.std.specs.List.{AllByRecursion}
use Rattle.std.specs.Ordering.{is_lt}
use Rattle.plain_laws.specs.Lists.{All-weaker}
use Rattle.task_order.specs.declared.task.Task.{Task}
use Rattle.task_order.specs.TaskList.{IsAscending, IsNewKey, put_in}
use Rattle.task_order.specs.declared.key.Key.{Key}
use Rattle.task_order.specs.TaskListLaws.{all_from_put_in}
use Rattle.task_order.specs.Key.{key_cmp}
use Rattle.app_laws.specs.Order.{is_prefix, AreApart, Pairwise}

pub is_prefix-same : (path : List ℕ) → is_prefix path path ≡ true
is_prefix-same [] = refl
is_prefix-same (n ∷ path) = and_from (nat_eq n n) (is_prefix path path) (eq-eqb n n refl) (is_prefix-same path)

pub differ_from_no_prefix : (path other : List ℕ) → is_prefix path other ≡ false → path ≢ other
differ_from_no_prefix path other none same = true≢false (sym (is_prefix-same path) ∙ ap (is_prefix path) same ∙ none)

abbrev pub TasksApart : Task → Task → Type 0
TasksApart task other = AreApart task.key.path other.key.path

pub TasksApart-turned : (task other : Task) → TasksApart task other → TasksApart other task
TasksApart-turned task other apart = record { not_before = apart.not_after; not_after = apart.not_before }

-- tasks that are apart have other keys
pub new_key_from_apart : (task : Task) (tasks : List Task) → AllByRecursion (TasksApart task) tasks → IsNewKey task.key tasks
new_key_from_apart task =
    All-weaker (TasksApart task) (λ other. other.key ≢ task.key) (λ other apart same. differ_from_no_prefix other.key.path task.key.path apart.not_after (ap (λ (key : Key). key.path) same))

-- a path is a prefix of what goes on from it
pub is_prefix-joined : (path rest : List ℕ) → is_prefix path (path ++ rest) ≡ true
is_prefix-joined [] rest = refl
is_prefix-joined (n ∷ path) rest = and_from (nat_eq n n) (is_prefix path (path ++ rest)) (eq-eqb n n refl) (is_prefix-joined path rest)

pub apart_from_put_in : (task : Task) (tasks : List Task) → Pairwise TasksApart (put_in task tasks) → AllByRecursion (TasksApart task) tasks
apart_from_put_in task [] pairs = tt
apart_from_put_in task (other ∷ tasks) pairs =
    let by_case : (past : Bool) → Pairwise TasksApart (cond past (other ∷ put_in task tasks) (task ∷ other ∷ tasks)) → AllByRecursion (TasksApart task) (other ∷ tasks) = elim [
      | true ↦ λ pairs. (TasksApart-turned other task (all_from_put_in (TasksApart other) task tasks pairs.0).0, apart_from_put_in task tasks pairs.1)
      | false ↦ λ pairs. pairs.0
    ] in
    by_case (is_lt (key_cmp other.key task.key)) pairs

-- in ascending order, and apart
pub record IsSpread (tasks : List Task) : Type 0 where
  pub ascending : IsAscending tasks
  pub apart : Pairwise TasksApart tasks
