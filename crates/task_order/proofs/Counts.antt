-- How many tasks are earlier than a key, by what the task at a place is.
use Rattle.std.specs.Prelude.{◌↔◌, IsTrue}
use Rattle.std.proofs.Common.{rules, ◌≡◌, ℕ, zero, suc, ◌<◌, ◌≤◌, Bool, true, false, List, [], ◌∷◌, length, get_or, refl, ap, arith}
use Rattle.std.proofs.lemmas.List.Sums.{length-filter, count_by-le-length}
use Rattle.task_order.specs.declared.key.Key.{Key}
use Rattle.task_order.specs.declared.task.Task.{Task}
use Rattle.task_order.specs.TaskList.{IsAscending, is_earlier, tasks_before}
use Rattle.task_order.proofs.Fronts.{before-late}
use Rattle.task_order.proofs.Places.{first_earlier, before-cons}

pub count_within_list : (key : Key) (tasks : List Task) → length (tasks_before key tasks) ≤ length tasks
count_within_list key tasks = omega (arith, length-filter (is_earlier key) tasks, count_by-le-length (is_earlier key) tasks)

-- before an earlier task stand earlier ones alone
pub counts_earlier : (key : Key) (tasks : List Task) (i : ℕ) (d : Task) → IsAscending tasks → i < length tasks → is_earlier key (get_or tasks i d) ≡ true → i < length (tasks_before key tasks)
counts_earlier key [] i d up inside earlier = absurd (omega (arith, inside))
counts_earlier key (task ∷ tasks) zero d up inside earlier = omega (arith, ap length (before-cons key task tasks true earlier))
counts_earlier key (task ∷ tasks) (suc i) d up inside earlier =
    let first = first_earlier key task tasks up.0 i d (omega (arith, inside)) earlier in
    omega (arith, ap length (before-cons key task tasks true first), counts_earlier key tasks i d up.1 (omega (arith, inside)) earlier)

one_more : (key : Key) (task : Task) (tasks : List Task) (test : Bool) → is_earlier key task ≡ test → length (tasks_before key (task ∷ tasks)) ≤ suc (length (tasks_before key tasks))
one_more key task tasks true is = omega (arith, ap length (before-cons key task tasks true is))
one_more key task tasks false is = omega (arith, ap length (before-cons key task tasks false is))

-- from one that isn't earlier on, none is
pub counts_late : (key : Key) (tasks : List Task) (i : ℕ) (d : Task) → IsAscending tasks → i < length tasks → is_earlier key (get_or tasks i d) ≡ false → length (tasks_before key tasks) ≤ i
counts_late key [] i d up inside late = absurd (omega (arith, inside))
counts_late key (task ∷ tasks) zero d up inside late =
    omega (arith, ap length (before-cons key task tasks false late), ap length (before-late key task tasks late up.0))
counts_late key (task ∷ tasks) (suc i) d up inside late =
    omega (arith, one_more key task tasks _ refl, counts_late key tasks i d up.1 (omega (arith, inside)) late)

pub counted_if : (key : Key) (tasks : List Task) (i : ℕ) (d : Task) → IsAscending tasks → i < length tasks → (test : Bool) → is_earlier key (get_or tasks i d) ≡ test → IsTrue test ↔ (i < length (tasks_before key tasks))
counted_if key tasks i d up inside true is = (λ _. counts_earlier key tasks i d up inside is, λ _. search rules)
counted_if key tasks i d up inside false is = (λ no. absurd (cc), λ below. absurd (omega (arith, below, counts_late key tasks i d up inside is)))

pub none_counted : (key : Key) (tasks : List Task) (i : ℕ) → length tasks ≤ i → IsTrue false ↔ (i < length (tasks_before key tasks))
none_counted key tasks i outside = (λ no. absurd (cc), λ below. absurd (omega (arith, outside, below, count_within_list key tasks)))
