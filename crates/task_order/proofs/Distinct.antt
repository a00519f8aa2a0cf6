-- Lists in which each key stands once.
use Rattle.std.proofs.Common.{◌≡◌, ◌≢◌, ℕ, ◌+◌, ◌≤◌, ⊎_elim, Bool, true, false, cond, List, [], ◌∷◌, ◌++◌, refl, sym, ◌∙◌, ap, subst, arith}
use Rattle.std.specs.List.{AllByRecursion, Contains, sum_by}
use Rattle.std.specs.List.Sorted.{IsPermutation}
use Rattle.std.specs.declared.cmp.Ordering.TheVariants.{Less}
use Rattle.std.proofs.lemmas.Bool.{cond_both}
use Rattle.std.proofs.lemmas.List.Elements.{All-from_recursion, All-contains}
use Rattle.std.proofs.lemmas.List.Sorted.{IsPermutation-refl, IsPermutation-sym, IsPermutation-trans, IsPermutation-middle, IsPermutation-append_left, IsPermutation-append_right, Contains-permutation, sum_by-IsPermutation}
use Rattle.std.proofs.lemmas.List.Sums.{sum_by-cons}
use Rattle.plain_laws.specs.Lists.{All-weaker, All-append, All-parts}
use Rattle.plain_laws.specs.Members.{none as none_there, here, there, cases}
use Rattle.task_order.specs.declared.key.Key.{Key}
use Rattle.task_order.specs.declared.task.Task.{Task}
use Rattle.task_order.specs.Key.{key_cmp, key_cmp_total}
use Rattle.task_order.specs.TaskList.{IsAscending, IsNewKey, HasDistinctKeys, put_in, put_all, is_earlier, has_key}
use Rattle.task_order.proofs.TaskLists.{has_from_test, test_from_has, IsNewKey-rest, IsAscending-put_in, IsPermutation-put_in}
use Rattle.task_order.specs.TaskListLaws.{All-put_in}
use Rattle.task_order.specs.KeyLaws.{differ_from_earlier}

pub distinct_from_ascending : (tasks : List Task) → IsAscending tasks → HasDistinctKeys tasks
distinct_from_ascending [] up = tt
distinct_from_ascending (task ∷ tasks) up = (IsNewKey-rest task.key tasks up.0, distinct_from_ascending tasks up.1)

turned_new : (task : Task) (tasks : List Task) → IsNewKey task.key tasks → AllByRecursion (λ other. task.key ≢ other.key) tasks
turned_new task = All-weaker (λ other. other.key ≢ task.key) (λ other. task.key ≢ other.key) (λ other differ same. differ (sym same))

-- ---- a new key

HasDistinctKeys-put_in : (task : Task) (tasks : List Task) → IsNewKey task.key tasks → HasDistinctKeys tasks → HasDistinctKeys (put_in task tasks)
HasDistinctKeys-put_in task [] new distinct = (tt, tt)
HasDistinctKeys-put_in task (other ∷ tasks) new distinct =
    cond_both (is_earlier task.key other) (other ∷ put_in task tasks) (task ∷ other ∷ tasks) HasDistinctKeys
    (λ _. (All-put_in (λ next. next.key ≢ other.key) task tasks (λ same. new.0 (sym same)) distinct.0, HasDistinctKeys-put_in task tasks new.1 distinct.1))
    (λ _. (new, distinct))

-- a task with a new key is put in behind others
pub distinct-put_in : (new : List Task) (task : Task) (tasks : List Task) → IsNewKey task.key (new ++ tasks) → HasDistinctKeys (new ++ tasks) → HasDistinctKeys (new ++ put_in task tasks)
distinct-put_in [] task tasks is_new distinct = HasDistinctKeys-put_in task tasks is_new distinct
distinct-put_in (next ∷ new) task tasks is_new distinct =
    let parts : IsNewKey next.key new × IsNewKey next.key tasks = All-parts (λ other. other.key ≢ next.key) new tasks distinct.0 in (
      All-append (λ other. other.key ≢ next.key) new (put_in task tasks) parts.0 (All-put_in (λ other. other.key ≢ next.key) task tasks (λ same. is_new.0 (sym same)) parts.1),
      distinct-put_in new task tasks is_new.1 distinct.1,
    )

pub IsAscending-put_all : (new tasks : List Task) → HasDistinctKeys (new ++ tasks) → IsAscending tasks → IsAscending (put_all new tasks)
IsAscending-put_all [] tasks distinct up = up
IsAscending-put_all (task ∷ new) tasks distinct up =
    let parts : IsNewKey task.key new × IsNewKey task.key tasks = All-parts (λ other. other.key ≢ task.key) new tasks distinct.0 in
    IsAscending-put_all new (put_in task tasks) (distinct-put_in new task tasks distinct.0 distinct.1) (IsAscending-put_in task tasks parts.1 up)

pub IsPermutation-put_all : (new tasks : List Task) → IsPermutation (new ++ tasks) (put_all new tasks)
IsPermutation-put_all [] tasks = IsPermutation-refl tasks
IsPermutation-put_all (task ∷ new) tasks =
    IsPermutation-trans _ (new ++ put_in task tasks) _
    (IsPermutation-trans _ (new ++ task ∷ tasks) _ (IsPermutation-sym _ _ (IsPermutation-middle new task tasks)) (IsPermutation-append_right new _ _ (IsPermutation-put_in task tasks)))
    (IsPermutation-put_all new (put_in task tasks))

-- ---- the number of tasks with a key

abbrev of_key : Key → Task → ℕ
of_key key task = cond (has_key key task) 1 0

of_key-other : (key : Key) (task : Task) (test : Bool) → has_key key task ≡ test → task.key ≢ key → cond {A = ℕ} test 1 0 ≡ 0
of_key-other key task true is differ = absurd (differ (has_from_test key task is))
of_key-other key task false is differ = refl

of_key-own : (key : Key) (task : Task) → task.key ≡ key → of_key key task ≡ 1
of_key-own key task same = ap (λ test. cond test 1 0) (test_from_has key task same)

none_of_new : (key : Key) (tasks : List Task) → IsNewKey key tasks → sum_by (of_key key) tasks ≡ 0
none_of_new key [] new = refl
none_of_new key (task ∷ tasks) new =
    omega (arith, sum_by-cons (of_key key) task tasks, of_key-other key task _ refl new.0, none_of_new key tasks new.1)

one_by : (task : Task) (tasks : List Task) (key : Key) (test : Bool) → has_key key task ≡ test → IsNewKey task.key tasks → sum_by (of_key key) tasks ≤ 1 → cond {A = ℕ} test 1 0 + sum_by (of_key key) tasks ≤ 1
one_by task tasks key true is new rest =
    omega (arith, none_of_new key tasks (subst (λ k. IsNewKey k tasks) (has_from_test key task is) new))
one_by task tasks key false is new rest = omega (arith, rest)

at_most_one : (tasks : List Task) → HasDistinctKeys tasks → (key : Key) → sum_by (of_key key) tasks ≤ 1
at_most_one [] distinct key = omega arith
at_most_one (task ∷ tasks) distinct key =
    omega (arith, sum_by-cons (of_key key) task tasks, one_by task tasks key _ refl distinct.0 (at_most_one tasks distinct.1 key))

new_from_none : (key : Key) (tasks : List Task) → sum_by (of_key key) tasks ≡ 0 → IsNewKey key tasks
new_from_none key [] none = tt
new_from_none key (task ∷ tasks) none = (
  λ same. absurd (omega (arith, none, sum_by-cons (of_key key) task tasks, of_key-own key task same)),
  new_from_none key tasks (omega (arith, none, sum_by-cons (of_key key) task tasks)),
)

distinct_from_counts : (tasks : List Task) → ((key : Key) → sum_by (of_key key) tasks ≤ 1) → HasDistinctKeys tasks
distinct_from_counts [] counts = tt
distinct_from_counts (task ∷ tasks) counts = (
  new_from_none task.key tasks (omega (arith, counts task.key, sum_by-cons (of_key task.key) task tasks, of_key-own task.key task refl)),
  distinct_from_counts tasks (λ key. omega (arith, counts key, sum_by-cons (of_key key) task tasks)),
)

pub distinct_in_any_order : (tasks others : List Task) → HasDistinctKeys tasks → IsPermutation tasks others → HasDistinctKeys others
distinct_in_any_order tasks others distinct moved =
    distinct_from_counts others (λ key. omega (arith, at_most_one tasks distinct key, sum_by-IsPermutation (of_key key) tasks others moved))

-- ---- ascending lists with the same tasks

pub later_than_first : (task other : Task) (tasks : List Task) → IsAscending (task ∷ tasks) → Contains tasks other → key_cmp task.key other.key ≡ Less
later_than_first task other tasks up has =
    All-contains (λ (next : Task). key_cmp task.key next.key ≡ Less) tasks other (All-from_recursion (λ (next : Task). key_cmp task.key next.key ≡ Less) tasks up.0) has

abbrev HasAllOf : List Task → List Task → Type 0
HasAllOf tasks others = (task : Task) → Contains others task → Contains tasks task

same_first : (task other : Task) (tasks others : List Task) → IsAscending (task ∷ tasks) → IsAscending (other ∷ others)
    → Contains (other ∷ others) task → Contains (task ∷ tasks) other → task ≡ other
same_first task other tasks others up up' has has' =
    ⊎_elim (λ same. sym same)
    (λ later. ⊎_elim (λ same. same)
    (λ later'. absurd (differ_from_earlier task.key task.key (key_cmp_total.trans task.key other.key task.key (later_than_first task other tasks up later') (later_than_first other task others up' later)) refl))
    (cases task other tasks has'))
    (cases other task others has)

rest_has : (task other : Task) (tasks others : List Task) → IsAscending (task ∷ tasks) → task ≡ other → HasAllOf (other ∷ others) (task ∷ tasks) → HasAllOf others tasks
rest_has task other tasks others up same all next has =
    ⊎_elim
    (λ first. absurd (differ_from_earlier task.key next.key (later_than_first task next tasks up has) (ap (λ (t : Task). t.key) (same ∙ first))))
    (λ rest. rest)
    (cases other next others (all next (there task next tasks has)))

same_from_tasks : (tasks others : List Task) → IsAscending tasks → IsAscending others → HasAllOf others tasks → HasAllOf tasks others → tasks ≡ others
same_from_tasks [] [] up up' all all' = refl
same_from_tasks [] (other ∷ others) up up' all all' = absurd (none_there other (all' other (here other others)))
same_from_tasks (task ∷ tasks) [] up up' all all' = absurd (none_there task (all task (here task tasks)))
same_from_tasks (task ∷ tasks) (other ∷ others) up up' all all' =
    let first : task ≡ other = same_first task other tasks others up up' (all task (here task tasks)) (all' other (here other others)) in
    let rest : tasks ≡ others = same_from_tasks tasks others up.1 up'.1 (rest_has task other tasks others up first all) (rest_has other task others tasks up' (sym first) all') in
    λ i. first i ∷ rest i

pub same_from_permutation : (tasks others : List Task) → IsAscending tasks → IsAscending others → IsPermutation tasks others → tasks ≡ others
same_from_permutation tasks others up up' moved =
    same_from_tasks tasks others up up' (λ task. Contains-permutation tasks others task moved) (λ task. Contains-permutation others tasks task (IsPermutation-sym _ _ moved))

pub put_all_in_any_order : (new other tasks : List Task) → HasDistinctKeys (new ++ tasks) → IsAscending tasks → IsPermutation new other → put_all new tasks ≡ put_all other tasks
put_all_in_any_order new other tasks distinct up moved =
    let distinct' : HasDistinctKeys (other ++ tasks) = distinct_in_any_order (new ++ tasks) (other ++ tasks) distinct (IsPermutation-append_left tasks new other moved) in
    same_from_permutation (put_all new tasks) (put_all other tasks) (IsAscending-put_all new tasks distinct up) (IsAscending-put_all other tasks distinct' up)
    (IsPermutation-trans _ (new ++ tasks) _ (IsPermutation-sym _ _ (IsPermutation-put_all new tasks))
    (IsPermutation-trans _ (other ++ tasks) _ (IsPermutation-append_left tasks new other moved) (IsPermutation-put_all other tasks)))
