-- Pending tasks, as others are put in among them.
use Rattle.std.proofs.Common.{◌≡◌, ◌≢◌, Bool, true, false, cond, List, [], ◌∷◌, ◌++◌, refl, sym, ap, subst, ◌∙◌}
use Rattle.std.proofs.lemmas.Bool.{true≢false}
use Rattle.std.specs.List.{AllByRecursion, filter}
use Rattle.std.specs.declared.cmp.Ordering.TheVariants.{Less}
use Rattle.std.specs.Ordering.{is_lt}
use Rattle.plain_laws.specs.Lists.{All-joined}
use Rattle.plain_laws.specs.Orderings.{less_from_test}
use Rattle.task_order.specs.declared.key.Key.{Key}
use Rattle.task_order.specs.declared.task.Task.{Task}
use Rattle.task_order.specs.Key.{key_cmp}
use Rattle.task_order.specs.TaskList.{IsAscending, IsNewKey, put_in, put_all, tasks_before}
use Rattle.task_order.specs.TaskListLaws.{All-put_in}
use Rattle.app_laws.specs.Order.{is_prefix, Pairwise}
use Rattle.app_laws.specs.ApartLaws.{IsSpread, TasksApart, TasksApart-turned, is_prefix-same, new_key_from_apart}
use Rattle.commuting.specs.Basis.{LowerLaws}

-- ---- what holds of all tasks

pub all_from_filter : {X : Type 0} (P : X → Type 0) (test : X → Bool) (xs : List X) → AllByRecursion P (filter test xs) → AllByRecursion (λ x. test x ≡ true → P x) xs
all_from_filter P test [] all = tt
all_from_filter P test (x ∷ xs) all =
    let by_case : (passes : Bool) → AllByRecursion P (cond passes (x ∷ filter test xs) (filter test xs)) → (passes ≡ true → P x) × AllByRecursion P (filter test xs) = elim [
      | true ↦ λ all. ((λ passes. all.0), all.1)
      | false ↦ λ all. ((λ passes. absurd (true≢false (sym passes))), all)
    ] in
    let parts : (test x ≡ true → P x) × AllByRecursion P (filter test xs) = by_case (test x) all in
    (parts.0, all_from_filter P test xs parts.1)

-- ---- what holds of all pairs of tasks

apart-put_in : (task : Task) (tasks : List Task) → AllByRecursion (TasksApart task) tasks → Pairwise TasksApart tasks → Pairwise TasksApart (put_in task tasks)
apart-put_in task [] apart pairs = (tt, tt)
apart-put_in task (other ∷ tasks) apart pairs = elim (is_lt (key_cmp other.key task.key)) as (λ past. Pairwise TasksApart (cond past (other ∷ put_in task tasks) (task ∷ other ∷ tasks))) [
  | true ↦ (All-put_in (TasksApart other) task tasks (TasksApart-turned task other apart.0) pairs.0, apart-put_in task tasks apart.1 pairs.1)
  | false ↦ (apart, pairs)
]

pub differ_where_apart : (task other : Task) → TasksApart task other → task.key ≢ other.key
differ_where_apart task other apart same =
    let itself = is_prefix-same task.key.path in
    let none : is_prefix task.key.path task.key.path ≡ false = subst (λ (key : Key). is_prefix task.key.path key.path ≡ false) (sym same) apart.not_before in
    let never = sym itself ∙ none in
    cc

-- ---- tasks in order, and apart

-- tasks that can be put in among spread ones
pub record FitIn (new tasks : List Task) : Type 0 where
  pub spread : IsSpread tasks
  pub siblings : Pairwise TasksApart new
  pub apart : AllByRecursion (λ task. AllByRecursion (TasksApart task) tasks) new

-- where a task is put in, some stay in front of it and the others behind
pub put_in-between : (task : Task) (tasks : List Task) → (front : List Task) × (behind : List Task) × (tasks ≡ front ++ behind) × (put_in task tasks ≡ front ++ task ∷ behind)
put_in-between task [] = ([], [], refl, refl)
put_in-between task (other ∷ tasks) =
    let rest = put_in-between task tasks in
    elim (is_lt (key_cmp other.key task.key)) as (λ past. (front : List Task) × (behind : List Task) × (other ∷ tasks ≡ front ++ behind) × (cond past (other ∷ put_in task tasks) (task ∷ other ∷ tasks) ≡ front ++ task ∷ behind)) [
      | true ↦ (other ∷ rest.0, rest.1, ap (λ l. other ∷ l) rest.2, ap (λ l. other ∷ l) rest.3)
      | false ↦ ([], other ∷ tasks, refl, refl)
    ]

-- later tasks come behind the first
pub put_all-behind : (first : Task) (new tasks : List Task) → AllByRecursion (λ task. key_cmp first.key task.key ≡ Less) new → put_all new (first ∷ tasks) ≡ first ∷ put_all new tasks
put_all-behind first [] tasks later = refl
put_all-behind first (task ∷ new) tasks later =
    ap (λ o. put_all new (cond (is_lt o) (first ∷ put_in task tasks) (task ∷ first ∷ tasks))) later.0
    ∙ put_all-behind first new (put_in task tasks) later.1

module _ (lower : LowerLaws) where
  spread-put_in : (task : Task) (tasks : List Task) → AllByRecursion (TasksApart task) tasks → IsSpread tasks → IsSpread (put_in task tasks)
  spread-put_in task tasks apart spread = record {
    ascending = lower.puts_ascend task tasks (new_key_from_apart task tasks apart) spread.ascending;
    apart = apart-put_in task tasks apart spread.apart;
  }

  fit_in_rest : (task : Task) (new tasks : List Task) → FitIn (task ∷ new) tasks → FitIn new (put_in task tasks)
  fit_in_rest task new tasks fit = record {
    spread = spread-put_in task tasks fit.apart.0 fit.spread;
    siblings = fit.siblings.1;
    apart =
        All-joined (TasksApart task) (λ later. AllByRecursion (TasksApart later) tasks) (λ later. AllByRecursion (TasksApart later) (put_in task tasks))
        (λ later pair all. All-put_in (TasksApart later) task tasks (TasksApart-turned task later pair) all)
        new fit.siblings.0 fit.apart.1;
  }

  pub spread-put_all : (new tasks : List Task) → FitIn new tasks → IsSpread (put_all new tasks)
  spread-put_all [] tasks fit = fit.spread
  spread-put_all (task ∷ new) tasks fit = spread-put_all new (put_in task tasks) (fit_in_rest task new tasks fit)

  -- tasks with other keys may be put in before or after
  pub put_all-put_all : (new more tasks : List Task) → AllByRecursion (λ task. IsNewKey task.key more) new → put_all new (put_all more tasks) ≡ put_all more (put_all new tasks)
  put_all-put_all [] more tasks differ = refl
  put_all-put_all (task ∷ new) more tasks differ =
      ap (put_all new) (sym (lower.put_all_commutes task more tasks differ.0))
      ∙ put_all-put_all new more (put_in task tasks) differ.1

  -- the tasks before a key, where others are put in
  before_step : (key : Key) (task : Task) (new tasks : List Task) (past : Bool) → is_lt (key_cmp task.key key) ≡ past → IsAscending tasks
      → put_all (tasks_before key new) (tasks_before key (put_in task tasks)) ≡ put_all (cond past (task ∷ tasks_before key new) (tasks_before key new)) (tasks_before key tasks)
  before_step key task new tasks true is ascending = ap (put_all (tasks_before key new)) (lower.before_takes key task tasks (less_from_test _ is) ascending)
  before_step key task new tasks false is ascending =
      ap (put_all (tasks_before key new)) (lower.before_skips key task tasks (λ less. let never = sym is ∙ ap is_lt less in cc))

  pub before-put_all : (key : Key) (new tasks : List Task) → FitIn new tasks → tasks_before key (put_all new tasks) ≡ put_all (tasks_before key new) (tasks_before key tasks)
  before-put_all key [] tasks fit = refl
  before-put_all key (task ∷ new) tasks fit =
      before-put_all key new (put_in task tasks) (fit_in_rest task new tasks fit)
      ∙ before_step key task new tasks (is_lt (key_cmp task.key key)) refl fit.spread.ascending

  pub before-put_all_later : (key : Key) (new tasks : List Task) → AllByRecursion (λ task. key_cmp task.key key ≢ Less) new → tasks_before key (put_all new tasks) ≡ tasks_before key tasks
  before-put_all_later key [] tasks later = refl
  before-put_all_later key (task ∷ new) tasks later = before-put_all_later key new (put_in task tasks) later.1 ∙ lower.before_skips key task tasks later.0
