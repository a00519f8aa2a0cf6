-- Lists of tasks under names: they are in the same order, and children's names go on from their parents'.
use Rattle.std.proofs.Common.{◌≡◌, ℕ, suc, Bool, true, false, not, cond, List, [], ◌∷◌, length, refl, sym, ap, ◌∙◌}
use Rattle.std.specs.Prelude.{map}
use Rattle.std.specs.List.{AllByRecursion, filter}
use Rattle.std.specs.declared.cmp.Ordering.{Ordering}
use Rattle.std.specs.Ordering.{is_lt, is_eq, nat_cmp, ordering_then}
use Rattle.std.proofs.lemmas.List.{length-map}
use Rattle.std.proofs.lemmas.List.Sorted.{length_permutation}
use Rattle.task_order.specs.declared.start.Start.{Start}
use Rattle.task_order.specs.declared.task.Task.{Task}
use Rattle.task_order.specs.Key.{key_cmp}
use Rattle.task_order.specs.TaskList.{put_in, put_all, is_earlier, tasks_before, has_key, without}
use Rattle.app_laws.specs.Execution.{children_from}
use Rattle.app_laws.specs.Names.{AreListed, IsNaming, with_path, renamed, start_of_task}
use Rattle.app_laws.specs.Renaming.{HaveNames}

-- a filter takes the same tasks where each passes one test as its renamed task passes the other
pub filter-renamed : (name : List ℕ → List ℕ) (test renamed_test : Task → Bool) (tasks : List Task) → AllByRecursion (λ task. renamed_test (renamed name task) ≡ test task) tasks
    → filter renamed_test (map (renamed name) tasks) ≡ map (renamed name) (filter test tasks)
filter-renamed name test renamed_test [] same = refl
filter-renamed name test renamed_test (task ∷ tasks) same =
    let rest = filter renamed_test (map (renamed name) tasks) in
    ap (λ b. cond b (renamed name task ∷ rest) rest) same.0
    ∙ elim (test task) as (λ b. cond b (renamed name task ∷ rest) rest ≡ map (renamed name) (cond b (task ∷ filter test tasks) (filter test tasks))) [
      | true ↦ ap (λ ts. renamed name task ∷ ts) (filter-renamed name test renamed_test tasks same.1)
      | false ↦ filter-renamed name test renamed_test tasks same.1
    ]

-- as many are listed as are pending
pub as_many_listed : (pending : List Task) (first : List Start) → AreListed pending first → length first ≡ length pending
as_many_listed pending first listed =
    ap length listed.starts ∙ length-map listed.tasks start_of_task ∙ length_permutation pending listed.tasks listed.same

module _ {name : List ℕ → List ℕ} {has_name : List ℕ → Bool} (naming : IsNaming name has_name) where
  -- keys compare as before
  pub key_cmp-renamed : (task other : Task) → has_name task.key.path ≡ true → has_name other.key.path ≡ true
      → key_cmp (renamed name task).key (renamed name other).key ≡ key_cmp task.key other.key
  key_cmp-renamed task other named other_named =
      ap (ordering_then (nat_cmp task.key.prio other.key.prio)) (naming.in_order task.key.path other.key.path named other_named)

  -- tasks are put in at the same places
  pub put_in-renamed : (task : Task) (tasks : List Task) → has_name task.key.path ≡ true → HaveNames has_name tasks
      → put_in (renamed name task) (map (renamed name) tasks) ≡ map (renamed name) (put_in task tasks)
  put_in-renamed task [] named all = refl
  put_in-renamed task (other ∷ tasks) named all =
      let later = renamed name other ∷ put_in (renamed name task) (map (renamed name) tasks) in
      let here = renamed name task ∷ renamed name other ∷ map (renamed name) tasks in
      ap (λ o. cond (is_lt o) later here) (key_cmp-renamed other task all.0 named)
      ∙ elim (is_lt (key_cmp other.key task.key)) as (λ b. cond b later here ≡ map (renamed name) (cond b (other ∷ put_in task tasks) (task ∷ other ∷ tasks))) [
        | true ↦ ap (λ ts. renamed name other ∷ ts) (put_in-renamed task tasks named all.1)
        | false ↦ refl
      ]

  put_in-named : (task : Task) (tasks : List Task) → has_name task.key.path ≡ true → HaveNames has_name tasks → HaveNames has_name (put_in task tasks)
  put_in-named task [] named all = (named, tt)
  put_in-named task (other ∷ tasks) named all = elim (is_lt (key_cmp other.key task.key)) as (λ b. HaveNames has_name (cond b (other ∷ put_in task tasks) (task ∷ other ∷ tasks))) [
    | true ↦ (all.0, put_in-named task tasks named all.1)
    | false ↦ (named, all)
  ]

  pub put_all-renamed : (new tasks : List Task) → HaveNames has_name new → HaveNames has_name tasks
      → put_all (map (renamed name) new) (map (renamed name) tasks) ≡ map (renamed name) (put_all new tasks)
  put_all-renamed [] tasks new_named all = refl
  put_all-renamed (task ∷ new) tasks new_named all =
      ap (put_all (map (renamed name) new)) (put_in-renamed task tasks new_named.0 all)
      ∙ put_all-renamed new (put_in task tasks) new_named.1 (put_in-named task tasks new_named.0 all)

  -- tests of the order of tasks say the same
  same_tests : (test : Ordering → Bool) (task : Task) (tasks : List Task) → has_name task.key.path ≡ true → HaveNames has_name tasks
      → AllByRecursion (λ other. test (key_cmp (renamed name other).key (renamed name task).key) ≡ test (key_cmp other.key task.key)) tasks
  same_tests test task [] named all = tt
  same_tests test task (other ∷ tasks) named all = (ap test (key_cmp-renamed other task all.0 named), same_tests test task tasks named all.1)

  -- the tasks before a task, and those that are not it, are the same
  pub tasks_before-renamed : (task : Task) (tasks : List Task) → has_name task.key.path ≡ true → HaveNames has_name tasks
      → tasks_before (renamed name task).key (map (renamed name) tasks) ≡ map (renamed name) (tasks_before task.key tasks)
  tasks_before-renamed task tasks named all =
      filter-renamed name (is_earlier task.key) (is_earlier (renamed name task).key) tasks (same_tests is_lt task tasks named all)

  pub without-renamed : (task : Task) (tasks : List Task) → has_name task.key.path ≡ true → HaveNames has_name tasks
      → without (renamed name task).key (map (renamed name) tasks) ≡ map (renamed name) (without task.key tasks)
  without-renamed task tasks named all =
      filter-renamed name (λ other. not (has_key task.key other)) (λ other. not (has_key (renamed name task).key other)) tasks
      (same_tests (λ o. not (is_eq o)) task tasks named all)

  -- the children of a task whose path has a name
  pub children-named : (task : Task) (number : ℕ) (children : List Start) → has_name task.key.path ≡ true → HaveNames has_name (children_from task.key number children)
  children-named task number [] named = tt
  children-named task number (child ∷ children) named = (naming.have_too task.key.path number named, children-named task (suc number) children named)

  pub children-renamed : (task : Task) (number : ℕ) (children : List Start) → has_name task.key.path ≡ true
      → children_from (renamed name task).key number children ≡ map (renamed name) (children_from task.key number children)
  children-renamed task number [] named = refl
  children-renamed task number (child ∷ children) named = (λ i.
      with_path (sym (naming.go_on task.key.path number named) i) (record { key = record { prio = child.prio; path = [] }; body = child.body })
      ∷ children-renamed task (suc number) children named i)
