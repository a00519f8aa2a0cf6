-- What is so of tasks that are put into lists in key order.
use Rattle.std.proofs.Common.{Bool, List, Some, [], ap, arith, cond, false, length, refl, subst, suc, take, true, zero, ℕ, ◌++◌, ◌+◌, ◌∙◌, ◌∷◌, ◌≡◌}
use Rattle.std.specs.Ordering.{is_lt, ordering_reverse}
use Rattle.std.specs.List.{AllByRecursion, filter}
use Rattle.std.specs.declared.cmp.Ordering.TheVariants.{Less}
use Rattle.std.specs.Prelude.{slice_get}
use Rattle.plain_laws.specs.Lists.{All-filter, All-found}
use Rattle.task_order.specs.declared.task.Task.{Task}
use Rattle.task_order.specs.Key.{key_cmp, key_cmp_total}
use Rattle.task_order.specs.TaskList.{put_in, put_all, IsAscending, tasks_before, is_earlier}
use Rattle.task_order.specs.declared.key.Key.{Key}
use Rattle.task_order.specs.KeyLaws.{key_cmp-same}

-- whether a task goes past another
abbrev pub is_past : Task → Task → Bool
is_past task other = is_lt (key_cmp other.key task.key)

pub length-put_in : (task : Task) (tasks : List Task) → length (put_in task tasks) ≡ length tasks + 1
length-put_in task [] = refl
length-put_in task (other ∷ tasks) = elim (is_past task other) as (λ past. length (cond past (other ∷ put_in task tasks) (task ∷ other ∷ tasks)) ≡ length (other ∷ tasks) + 1) [
  | true ↦ omega (arith, length-put_in task tasks)
  | false ↦ omega arith
]

-- what holds of the task and of the others holds of all, and the way back
pub All-put_in : (P : Task → Type 0) (task : Task) (tasks : List Task) → P task → AllByRecursion P tasks → AllByRecursion P (put_in task tasks)
All-put_in P task [] one all = (one, tt)
All-put_in P task (other ∷ tasks) one all = elim (is_past task other) as (λ past. AllByRecursion P (cond past (other ∷ put_in task tasks) (task ∷ other ∷ tasks))) [
  | true ↦ (all.0, All-put_in P task tasks one all.1)
  | false ↦ (one, all)
]

pub all_from_put_in : (P : Task → Type 0) (task : Task) (tasks : List Task) → AllByRecursion P (put_in task tasks) → P task × AllByRecursion P tasks
all_from_put_in P task [] all = all
all_from_put_in P task (other ∷ tasks) all =
    let by_case : (past : Bool) → AllByRecursion P (cond past (other ∷ put_in task tasks) (task ∷ other ∷ tasks)) → P task × AllByRecursion P (other ∷ tasks) = elim [
      | true ↦ λ all. let rest : P task × AllByRecursion P tasks = all_from_put_in P task tasks all.1 in (rest.0, (all.0, rest.1))
      | false ↦ λ all. all
    ] in
    by_case (is_past task other) all

pub length-put_all : (new tasks : List Task) → length (put_all new tasks) ≡ length tasks + length new
length-put_all [] tasks = omega arith
length-put_all (task ∷ new) tasks = omega (arith, length-put_all new (put_in task tasks), length-put_in task tasks)

pub All-put_all : (P : Task → Type 0) (new tasks : List Task) → AllByRecursion P new → AllByRecursion P tasks → AllByRecursion P (put_all new tasks)
All-put_all P [] tasks all_new all = all
All-put_all P (task ∷ new) tasks all_new all = All-put_all P new (put_in task tasks) all_new.1 (All-put_in P task tasks all_new.0 all)

-- some tasks of an ascending list ascend too
pub IsAscending-filter : (p : Task → Bool) (tasks : List Task) → IsAscending tasks → IsAscending (filter p tasks)
IsAscending-filter p [] up = tt
IsAscending-filter p (task ∷ tasks) up = elim (p task) as (λ test. IsAscending (cond test (task ∷ filter p tasks) (filter p tasks))) [
  | true ↦ (All-filter (λ other. key_cmp task.key other.key ≡ Less) p tasks up.0, IsAscending-filter p tasks up.1)
  | false ↦ IsAscending-filter p tasks up.1
]

-- a task stands among these, and the rest are the others
pub record IsSplit (task : Task) (tasks rest : List Task) : Type 0 where
  pub before : List Task
  pub after : List Task
  pub all : tasks ≡ before ++ task ∷ after
  pub others : rest ≡ before ++ after

-- a task that was put in stands among the others
pub put_splits : (task : Task) (tasks : List Task) → IsSplit task (put_in task tasks) tasks
put_splits task [] = record { before = []; after = []; all = refl; others = refl }
put_splits task (other ∷ tasks) =
    let rest = put_splits task tasks in
    elim (is_lt (key_cmp other.key task.key)) as (λ past. IsSplit task (cond past (other ∷ put_in task tasks) (task ∷ other ∷ tasks)) (other ∷ tasks)) [
      | true ↦ record {
        before = other ∷ rest.before;
        after = rest.after;
        all = ap (λ (tasks : List Task). other ∷ tasks) rest.all;
        others = ap (λ (tasks : List Task). other ∷ tasks) rest.others;
      }
      | false ↦ record { before = []; after = other ∷ tasks; all = refl; others = refl }
    ]

-- no later task is before a key
pub tasks_before-later : (key : Key) (tasks : List Task) → AllByRecursion (λ task. key_cmp key task.key ≡ Less) tasks → tasks_before key tasks ≡ []
tasks_before-later key [] later = refl
tasks_before-later key (task ∷ tasks) later =
    ap (λ o. cond (is_lt o) (task ∷ tasks_before key tasks) (tasks_before key tasks)) (key_cmp_total.antisymm task.key key ∙ ap ordering_reverse later.0) ∙ tasks_before-later key tasks later.1

-- those before the task at a place are those in front of it
pub tasks_before-place : (tasks : List Task) (place : ℕ) (task : Task) → IsAscending tasks → slice_get tasks place ≡ Some task → tasks_before task.key tasks ≡ take place tasks
tasks_before-place [] place task ascending at = absurd cc
tasks_before-place (other ∷ tasks) zero task ascending at =
    let same : other ≡ task = cc in
    let test : is_earlier other.key other ≡ false = ap is_lt (key_cmp-same other.key) in
    subst (λ (t : Task). tasks_before t.key (other ∷ tasks) ≡ []) same
    (ap (λ (b : Bool). cond b (other ∷ tasks_before other.key tasks) (tasks_before other.key tasks)) test ∙ tasks_before-later other.key tasks ascending.0)
tasks_before-place (other ∷ tasks) (suc place) task ascending at =
    let less : key_cmp other.key task.key ≡ Less = All-found (λ (t : Task). key_cmp other.key t.key ≡ Less) tasks place task ascending.0 at in
    let test : is_earlier task.key other ≡ true = ap is_lt less in
    ap (λ (b : Bool). cond b (other ∷ tasks_before task.key tasks) (tasks_before task.key tasks)) test ∙ ap (λ (rest : List Task). other ∷ rest) (tasks_before-place tasks place task ascending.1 at)
