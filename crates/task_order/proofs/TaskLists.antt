-- What follows for lists of tasks in key order.
use Rattle.std.proofs.Common.{◌≡◌, ◌≢◌, Bool, true, false, cond, List, [], ◌∷◌, ◌++◌, refl, sym, ◌∙◌, ap, arith}
use Rattle.std.specs.BTreeSet.{insert_key}
use Rattle.std.specs.Prelude.{◌↔◌}
use Rattle.std.specs.List.{AllByRecursion}
use Rattle.std.specs.List.Sorted.{IsPermutation, IsStrictlySortedBy}
use Rattle.std.specs.declared.cmp.Ordering.{Ordering}
use Rattle.std.specs.declared.cmp.Ordering.TheVariants.{Less, Equal, Greater}
use Rattle.std.specs.Ordering.{match_ordering, is_lt, is_eq}
use Rattle.std.proofs.lemmas.List.Sorted.{IsPermutation-refl, IsPermutation-cons, IsPermutation-trans, IsPermutation-swap}
use Rattle.plain_laws.specs.Orderings.{less_from_test, equal_from_test}
use Rattle.task_order.specs.declared.key.Key.{Key}
use Rattle.task_order.specs.declared.task.Task.{Task}
use Rattle.task_order.specs.Key.{key_cmp, key_cmp_total}
use Rattle.task_order.specs.TaskList.{IsAscending, IsNewKey, put_in, put_all, has_key}
use Rattle.task_order.proofs.KeyOrder.{key_cmp-exact, key_cmp-turned}
use Rattle.task_order.specs.TaskListLaws.{All-put_in, all_from_put_in, is_past}
use Rattle.task_order.specs.KeyLaws.{key_cmp-same, differ_from_earlier, key_cmp-turned_back}

-- ---- the test for a key

pub has_from_test : (key : Key) (task : Task) → has_key key task ≡ true → task.key ≡ key
has_from_test key task is = key_cmp-exact task.key key (equal_from_test _ is)

pub test_from_has : (key : Key) (task : Task) → task.key ≡ key → has_key key task ≡ true
test_from_has key task same = ap (λ k. is_eq (key_cmp k key)) same ∙ ap is_eq (key_cmp-same key)

-- ---- what an ordered set keeps and does

pub ascending_from_sorted : (tasks : List Task) → IsStrictlySortedBy (λ a b. key_cmp a.key b.key) tasks → IsAscending tasks
unfolding IsStrictlySortedBy
ascending_from_sorted [] sorted = tt
ascending_from_sorted (task ∷ tasks) sorted = (sorted.0, ascending_from_sorted tasks sorted.1)

insert_step : (task other : Task) (tasks : List Task) (o : Ordering) → key_cmp task.key other.key ≡ o → other.key ≢ task.key → (rest : List Task) → rest ≡ put_in task tasks
    → match_ordering o (task ∷ other ∷ tasks) (other ∷ tasks) (other ∷ rest) ≡ put_in task (other ∷ tasks)
insert_step task other tasks Less is new rest same =
    ap (λ o. cond (is_lt o) (other ∷ put_in task tasks) (task ∷ other ∷ tasks)) (sym (key_cmp-turned_back task.key other.key is))
insert_step task other tasks Equal is new rest same = absurd (new (sym (key_cmp-exact task.key other.key is)))
insert_step task other tasks Greater is new rest same =
    ap (λ r. other ∷ r) same ∙ ap (λ o. cond (is_lt o) (other ∷ put_in task tasks) (task ∷ other ∷ tasks)) (sym (key_cmp-turned task.key other.key is))

-- a task whose key is new goes to its place in an ordered set
pub put_in_from_insert_key : (task : Task) (tasks : List Task) → IsNewKey task.key tasks → insert_key (λ a b. key_cmp a.key b.key) tasks task ≡ put_in task tasks
put_in_from_insert_key task [] new = refl
put_in_from_insert_key task (other ∷ tasks) new =
    insert_step task other tasks (key_cmp task.key other.key) refl new.0 _ (put_in_from_insert_key task tasks new.1)

-- ---- one task put in

pub new_key_put_in : (key : Key) (task : Task) (tasks : List Task) → IsNewKey key (put_in task tasks) ↔ ((task.key ≢ key) × IsNewKey key tasks)
new_key_put_in key task tasks =
    (all_from_put_in (λ other. other.key ≢ key) task tasks, λ new. All-put_in (λ other. other.key ≢ key) task tasks new.0 new.1)

-- the key stays new where another task is put in
pub IsNewKey-put_in : (key : Key) (task : Task) (tasks : List Task) → task.key ≢ key → IsNewKey key tasks → IsNewKey key (put_in task tasks)
IsNewKey-put_in key task tasks differs new = All-put_in (λ other. other.key ≢ key) task tasks differs new

all_later : (key next : Key) (tasks : List Task) → key_cmp key next ≡ Less → AllByRecursion (λ other. key_cmp next other.key ≡ Less) tasks → AllByRecursion (λ other. key_cmp key other.key ≡ Less) tasks
all_later key next [] earlier all = tt
all_later key next (task ∷ tasks) earlier all = (key_cmp_total.trans key next task.key earlier all.0, all_later key next tasks earlier all.1)

-- a task goes in front of later ones
pub put_in-first : (task : Task) (tasks : List Task) → AllByRecursion (λ other. key_cmp task.key other.key ≡ Less) tasks → put_in task tasks ≡ task ∷ tasks
put_in-first task [] all = refl
put_in-first task (other ∷ tasks) all = ap (λ o. cond (is_lt o) (other ∷ put_in task tasks) (task ∷ other ∷ tasks)) (key_cmp-turned_back task.key other.key all.0)

-- and behind an earlier one
pub put_in-behind : (task other : Task) (tasks : List Task) → key_cmp other.key task.key ≡ Less → put_in task (other ∷ tasks) ≡ other ∷ put_in task tasks
put_in-behind task other tasks earlier = ap (λ o. cond (is_lt o) (other ∷ put_in task tasks) (task ∷ other ∷ tasks)) earlier

pub put_in-last : (task : Task) (tasks : List Task) → AllByRecursion (λ other. key_cmp other.key task.key ≡ Less) tasks → put_in task tasks ≡ tasks ++ task ∷ []
put_in-last task [] all = refl
put_in-last task (other ∷ tasks) all = put_in-behind task other tasks all.0 ∙ ap (λ rest. other ∷ rest) (put_in-last task tasks all.1)

ascending_step : (task other : Task) (tasks : List Task) (o : Ordering) → key_cmp other.key task.key ≡ o → other.key ≢ task.key → IsAscending (other ∷ tasks) → IsAscending (put_in task tasks)
    → IsAscending (cond (is_lt o) (other ∷ put_in task tasks) (task ∷ other ∷ tasks))
ascending_step task other tasks Less is new up rest = (All-put_in (λ next. key_cmp other.key next.key ≡ Less) task tasks is up.0, rest)
ascending_step task other tasks Equal is new up rest = absurd (new (key_cmp-exact other.key task.key is))
ascending_step task other tasks Greater is new up rest =
    let earlier : key_cmp task.key other.key ≡ Less = key_cmp-turned other.key task.key is in
    ((earlier, all_later task.key other.key tasks earlier up.0), up)

-- the keys still ascend where a task with a new key is put in
pub IsAscending-put_in : (task : Task) (tasks : List Task) → IsNewKey task.key tasks → IsAscending tasks → IsAscending (put_in task tasks)
IsAscending-put_in task [] new up = (tt, tt)
IsAscending-put_in task (other ∷ tasks) new up = ascending_step task other tasks (key_cmp other.key task.key) refl new.0 up (IsAscending-put_in task tasks new.1 up.1)

permutation_step : (task other : Task) (tasks rest : List Task) (past : Bool) → IsPermutation (task ∷ tasks) rest → IsPermutation (task ∷ other ∷ tasks) (cond past (other ∷ rest) (task ∷ other ∷ tasks))
permutation_step task other tasks rest true moved =
    IsPermutation-trans _ (other ∷ task ∷ tasks) _ (IsPermutation-swap _ _ 0 1 (omega arith) (omega arith) refl) (IsPermutation-cons other _ _ moved)
permutation_step task other tasks rest false moved = IsPermutation-refl _

-- no task is lost or made
pub IsPermutation-put_in : (task : Task) (tasks : List Task) → IsPermutation (task ∷ tasks) (put_in task tasks)
IsPermutation-put_in task [] = IsPermutation-refl _
IsPermutation-put_in task (other ∷ tasks) = permutation_step task other tasks (put_in task tasks) (is_past task other) (IsPermutation-put_in task tasks)

-- the keys after the first are others
pub IsNewKey-rest : (key : Key) (tasks : List Task) → AllByRecursion (λ other. key_cmp key other.key ≡ Less) tasks → IsNewKey key tasks
IsNewKey-rest key [] all = tt
IsNewKey-rest key (task ∷ tasks) all = ((λ same. differ_from_earlier key task.key all.0 (sym same)), IsNewKey-rest key tasks all.1)

-- ---- two tasks put in

-- a task goes in front of a list whose first task isn't earlier
stops_at_head : (task other : Task) (tasks : List Task) (o : Ordering) → key_cmp other.key task.key ≡ o → is_lt o ≡ false → put_in task (other ∷ tasks) ≡ task ∷ other ∷ tasks
stops_at_head task other tasks o is not_past = ap (λ p. cond p (other ∷ put_in task tasks) (task ∷ other ∷ tasks)) (ap is_lt is ∙ not_past)

stops_before_both : (task next other : Task) (tasks rest : List Task) (past : Bool) → key_cmp task.key next.key ≡ Less → is_past task other ≡ false
    → put_in task (cond past (other ∷ rest) (next ∷ other ∷ tasks)) ≡ task ∷ cond past (other ∷ rest) (next ∷ other ∷ tasks)
stops_before_both task next other tasks rest true earlier not_past = stops_at_head task other rest _ refl not_past
stops_before_both task next other tasks rest false earlier not_past = stops_at_head task next (other ∷ tasks) Greater (key_cmp-turned_back task.key next.key earlier) refl

earlier_step : (task next other : Task) (tasks : List Task) → key_cmp task.key next.key ≡ Less → (past : Bool) → is_past task other ≡ past
    → put_in task (put_in next tasks) ≡ put_in next (put_in task tasks) → put_in task (put_in next (other ∷ tasks)) ≡ put_in next (put_in task (other ∷ tasks))
earlier_step task next other tasks earlier true is rest =
    let before_task : key_cmp other.key task.key ≡ Less = less_from_test _ is in
    let before_next : key_cmp other.key next.key ≡ Less = key_cmp_total.trans other.key task.key next.key before_task earlier in
    ap (put_in task) (put_in-behind next other tasks before_next) ∙ put_in-behind task other (put_in next tasks) before_task ∙ ap (λ r. other ∷ r) rest
    ∙ sym (ap (put_in next) (put_in-behind task other tasks before_task) ∙ put_in-behind next other (put_in task tasks) before_next)
earlier_step task next other tasks earlier false is rest =
    stops_before_both task next other tasks (put_in next tasks) (is_past next other) earlier is
    ∙ sym (ap (put_in next) (stops_at_head task other tasks _ refl is) ∙ put_in-behind next task (other ∷ tasks) earlier)

earlier_first : (task next : Task) (tasks : List Task) → key_cmp task.key next.key ≡ Less → put_in task (put_in next tasks) ≡ put_in next (put_in task tasks)
earlier_first task next [] earlier =
    stops_at_head task next [] Greater (key_cmp-turned_back task.key next.key earlier) refl ∙ sym (put_in-behind next task [] earlier)
earlier_first task next (other ∷ tasks) earlier = earlier_step task next other tasks earlier (is_past task other) refl (earlier_first task next tasks earlier)

either_way : (task next : Task) (tasks : List Task) (o : Ordering) → key_cmp task.key next.key ≡ o → task.key ≢ next.key → put_in task (put_in next tasks) ≡ put_in next (put_in task tasks)
either_way task next tasks Less is differ = earlier_first task next tasks is
either_way task next tasks Equal is differ = absurd (differ (key_cmp-exact task.key next.key is))
either_way task next tasks Greater is differ = sym (earlier_first next task tasks (key_cmp-turned task.key next.key is))

-- two tasks with different keys may be put in in either order
pub put_in-put_in : (task next : Task) (tasks : List Task) → task.key ≢ next.key → put_in task (put_in next tasks) ≡ put_in next (put_in task tasks)
put_in-put_in task next tasks differ = either_way task next tasks _ refl differ

-- ---- several tasks put in

pub put_all-append : (new more tasks : List Task) → put_all (new ++ more) tasks ≡ put_all more (put_all new tasks)
put_all-append [] more tasks = refl
put_all-append (task ∷ new) more tasks = put_all-append new more (put_in task tasks)

-- a task whose key differs from theirs may be put in before them or after them
pub put_all-put_in : (task : Task) (new tasks : List Task) → IsNewKey task.key new → put_all new (put_in task tasks) ≡ put_in task (put_all new tasks)
put_all-put_in task [] tasks differ = refl
put_all-put_in task (next ∷ new) tasks differ = ap (put_all new) (put_in-put_in next task tasks differ.0) ∙ put_all-put_in task new (put_in next tasks) differ.1
