-- The tasks before a key, and the others.
use Rattle.std.proofs.Common.{◌≡◌, ◌≢◌, Bool, true, false, not, cond, List, [], ◌∷◌, ◌++◌, refl, sym, ◌∙◌, ap}
use Rattle.std.specs.List.{AllByRecursion, filter}
use Rattle.std.specs.declared.cmp.Ordering.{Ordering}
use Rattle.std.specs.declared.cmp.Ordering.TheVariants.{Less, Equal, Greater}
use Rattle.std.specs.Ordering.{is_lt}
use Rattle.std.proofs.lemmas.Bool.{cond_both}
use Rattle.plain_laws.specs.Orderings.{less_from_test}
use Rattle.plain_laws.specs.Lists.{All-weaker, All-filter, filter-all, filter-none}
use Rattle.task_order.specs.declared.key.Key.{Key}
use Rattle.task_order.specs.declared.task.Task.{Task}
use Rattle.task_order.specs.Key.{key_cmp, key_cmp_total}
use Rattle.task_order.specs.TaskList.{IsAscending, put_in, is_earlier, tasks_before, tasks_from}
use Rattle.task_order.proofs.TaskLists.{put_in-behind}

-- what is later than a task that isn't earlier than the key isn't either
stays_late : (key : Key) (task other : Task) → is_earlier key task ≡ false → key_cmp task.key other.key ≡ Less → (test : Bool) → is_earlier key other ≡ test → test ≡ false
stays_late key task other late later false is = refl
stays_late key task other late later true is =
    let earlier : is_earlier key task ≡ true = ap is_lt (key_cmp_total.trans task.key other.key key later (less_from_test _ is)) in
    sym earlier ∙ late

pub all_late : (key : Key) (task : Task) (tasks : List Task) → is_earlier key task ≡ false → AllByRecursion (λ other. key_cmp task.key other.key ≡ Less) tasks → AllByRecursion (λ other. is_earlier key other ≡ false) tasks
all_late key task tasks late = All-weaker (λ other. key_cmp task.key other.key ≡ Less) (λ other. is_earlier key other ≡ false) (λ other later. stays_late key task other late later _ refl) tasks

pub before-late : (key : Key) (task : Task) (tasks : List Task) → is_earlier key task ≡ false → AllByRecursion (λ other. key_cmp task.key other.key ≡ Less) tasks → tasks_before key tasks ≡ []
before-late key task tasks late later = filter-none (is_earlier key) tasks (all_late key task tasks late later)

from-late : (key : Key) (task : Task) (tasks : List Task) → is_earlier key task ≡ false → AllByRecursion (λ other. key_cmp task.key other.key ≡ Less) tasks → tasks_from key tasks ≡ tasks
from-late key task tasks late later =
    filter-all (λ other. not (is_earlier key other)) tasks
    (All-weaker (λ other. is_earlier key other ≡ false) (λ other. not (is_earlier key other) ≡ true) (λ other is. ap not is) tasks (all_late key task tasks late later))

parts_step : (key : Key) (task : Task) (tasks : List Task) (test : Bool) → is_earlier key task ≡ test → IsAscending (task ∷ tasks) → tasks ≡ tasks_before key tasks ++ tasks_from key tasks
    → task ∷ tasks ≡ cond test (task ∷ tasks_before key tasks) (tasks_before key tasks) ++ cond (not test) (task ∷ tasks_from key tasks) (tasks_from key tasks)
parts_step key task tasks true is up rest = ap (λ l. task ∷ l) rest
parts_step key task tasks false is up rest = λ i. sym (before-late key task tasks is up.0) i ++ task ∷ sym (from-late key task tasks is up.0) i

-- an ascending list begins with them
pub before_and_from : (key : Key) (tasks : List Task) → IsAscending tasks → tasks ≡ tasks_before key tasks ++ tasks_from key tasks
before_and_from key [] up = refl
before_and_from key (task ∷ tasks) up = parts_step key task tasks _ refl up (before_and_from key tasks up.1)

pub all_before : (key : Key) (tasks : List Task) → AllByRecursion (λ task. key_cmp task.key key ≡ Less) (tasks_before key tasks)
all_before key [] = tt
all_before key (task ∷ tasks) =
    cond_both (is_earlier key task) (task ∷ tasks_before key tasks) (tasks_before key tasks) (λ l. AllByRecursion (λ other. key_cmp other.key key ≡ Less) l)
    (λ earlier. (less_from_test _ earlier, all_before key tasks)) (λ _. all_before key tasks)

between_step : (task other : Task) (tasks : List Task) (test : Bool) → is_earlier task.key other ≡ test → IsAscending (other ∷ tasks) → put_in task tasks ≡ tasks_before task.key tasks ++ task ∷ tasks_from task.key tasks
    → cond test (other ∷ put_in task tasks) (task ∷ other ∷ tasks)
    ≡ cond test (other ∷ tasks_before task.key tasks) (tasks_before task.key tasks) ++ task ∷ cond (not test) (other ∷ tasks_from task.key tasks) (tasks_from task.key tasks)
between_step task other tasks true is up rest = ap (λ l. other ∷ l) rest
between_step task other tasks false is up rest =
    λ i. sym (before-late task.key other tasks is up.0) i ++ task ∷ other ∷ sym (from-late task.key other tasks is up.0) i

-- a task goes between them
pub put_in-between : (task : Task) (tasks : List Task) → IsAscending tasks → put_in task tasks ≡ tasks_before task.key tasks ++ task ∷ tasks_from task.key tasks
put_in-between task [] up = refl
put_in-between task (other ∷ tasks) up = between_step task other tasks _ refl up (put_in-between task tasks up.1)

-- ---- a task put in, and some tasks picked

-- a task that isn't picked makes no difference
pub filter-put_in-dropped : (p : Task → Bool) (task : Task) (tasks : List Task) → p task ≡ false → filter p (put_in task tasks) ≡ filter p tasks
filter-put_in-dropped p task [] dropped = ap (λ test. cond test (task ∷ []) []) dropped
filter-put_in-dropped p task (other ∷ tasks) dropped =
    cond_both (is_earlier task.key other) (other ∷ put_in task tasks) (task ∷ other ∷ tasks) (λ l. filter p l ≡ filter p (other ∷ tasks))
    (λ _. ap (λ l. cond (p other) (other ∷ l) l) (filter-put_in-dropped p task tasks dropped))
    (λ _. ap (λ test. cond test (task ∷ filter p (other ∷ tasks)) (filter p (other ∷ tasks))) dropped)

pub put_in-front : (task : Task) (tasks : List Task) → AllByRecursion (λ other. is_earlier task.key other ≡ false) tasks → put_in task tasks ≡ task ∷ tasks
put_in-front task [] all = refl
put_in-front task (other ∷ tasks) all = ap (λ test. cond test (other ∷ put_in task tasks) (task ∷ other ∷ tasks)) all.0

behind_step : (p : Task → Bool) (task other : Task) (tasks : List Task) (test : Bool) → is_earlier task.key other ≡ true → filter p (put_in task tasks) ≡ put_in task (filter p tasks)
    → cond test (other ∷ filter p (put_in task tasks)) (filter p (put_in task tasks)) ≡ put_in task (cond test (other ∷ filter p tasks) (filter p tasks))
behind_step p task other tasks true is rest = ap (λ l. other ∷ l) rest ∙ sym (put_in-behind task other (filter p tasks) (less_from_test _ is))
behind_step p task other tasks false is rest = rest

-- one that is picked may be put in before or after
pub filter-put_in-kept : (p : Task → Bool) (task : Task) (tasks : List Task) → p task ≡ true → IsAscending tasks → filter p (put_in task tasks) ≡ put_in task (filter p tasks)
filter-put_in-kept p task [] kept up = ap (λ test. cond test (task ∷ []) []) kept
filter-put_in-kept p task (other ∷ tasks) kept up =
    cond_both (is_earlier task.key other) (other ∷ put_in task tasks) (task ∷ other ∷ tasks) (λ l. filter p l ≡ put_in task (filter p (other ∷ tasks)))
    (λ past. behind_step p task other tasks (p other) past (filter-put_in-kept p task tasks kept up.1))
    (λ not_past. ap (λ test. cond test (task ∷ filter p (other ∷ tasks)) (filter p (other ∷ tasks))) kept
    ∙ sym (put_in-front task (filter p (other ∷ tasks)) (All-filter (λ next. is_earlier task.key next ≡ false) p (other ∷ tasks) (not_past, all_late task.key other tasks not_past up.0))))

not_earlier : (o : Ordering) → o ≢ Less → is_lt o ≡ false
not_earlier Less isnt = absurd (isnt refl)
not_earlier Equal isnt = refl
not_earlier Greater isnt = refl

pub before_skips_later : (key : Key) (task : Task) (tasks : List Task) → key_cmp task.key key ≢ Less → tasks_before key (put_in task tasks) ≡ tasks_before key tasks
before_skips_later key task tasks later = filter-put_in-dropped (is_earlier key) task tasks (not_earlier _ later)

pub before_takes_earlier : (key : Key) (task : Task) (tasks : List Task) → key_cmp task.key key ≡ Less → IsAscending tasks → tasks_before key (put_in task tasks) ≡ put_in task (tasks_before key tasks)
before_takes_earlier key task tasks earlier up = filter-put_in-kept (is_earlier key) task tasks (ap is_lt earlier) up
