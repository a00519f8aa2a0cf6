-- The tasks that have other keys.
use Rattle.std.proofs.Common.{◌≡◌, ◌≢◌, ⊎_elim, Bool, true, false, not, cond, List, [], ◌∷◌, refl, sym, ◌∙◌, ap, subst, arith}
use Rattle.std.specs.Prelude.{◌↔◌}
use Rattle.std.specs.List.{Contains, filter}
use Rattle.std.specs.declared.cmp.Ordering.TheVariants.{Less}
use Rattle.std.proofs.lemmas.Bool.{true≢false, not-true, cond_both, cond-true, cond-false}
use Rattle.std.proofs.lemmas.List.Elements.{All-contains, recursion_from_All, filter_passes}
use Rattle.plain_laws.specs.Lists.{All-weaker, filter-all}
use Rattle.plain_laws.specs.Members.{cases, here, there}
use Rattle.task_order.specs.declared.key.Key.{Key}
use Rattle.task_order.specs.declared.task.Task.{Task}
use Rattle.task_order.specs.Key.{key_cmp}
use Rattle.task_order.specs.TaskList.{IsAscending, IsNewKey, put_in, has_key, without}
use Rattle.task_order.proofs.TaskLists.{has_from_test, test_from_has, put_in-first, put_in-behind, IsNewKey-rest}
use Rattle.task_order.proofs.Fronts.{filter-put_in-dropped, filter-put_in-kept}
use Rattle.task_order.proofs.Distinct.{later_than_first}
use Rattle.task_order.specs.KeyLaws.{differ_from_earlier}

-- whether a task stays where the one with the key is taken out
abbrev pub stays : Key → Task → Bool
stays key task = not (has_key key task)

stays_by : (key : Key) (task : Task) (test : Bool) → has_key key task ≡ test → task.key ≢ key → not test ≡ true
stays_by key task true is differ = absurd (differ (has_from_test key task is))
stays_by key task false is differ = refl

pub stays_from_differ : (key : Key) (task : Task) → task.key ≢ key → stays key task ≡ true
stays_from_differ key task differ = stays_by key task _ refl differ

pub differ_from_stays : (key : Key) (task : Task) → stays key task ≡ true → task.key ≢ key
differ_from_stays key task is same = true≢false (sym (test_from_has key task same) ∙ not-true _ is)

leaves : (task : Task) → stays task.key task ≡ false
leaves task = ap not (test_from_has task.key task refl)

-- ---- laws

pub without_new_key : (key : Key) (tasks : List Task) → IsNewKey key tasks → without key tasks ≡ tasks
without_new_key key tasks new =
    filter-all (stays key) tasks (All-weaker (λ task. task.key ≢ key) (λ task. stays key task ≡ true) (λ task differ. stays_from_differ key task differ) tasks new)

pub without_makes_new : (key : Key) (tasks : List Task) → IsNewKey key (without key tasks)
without_makes_new key tasks =
    All-weaker (λ task. stays key task ≡ true) (λ task. task.key ≢ key) (λ task is. differ_from_stays key task is) (without key tasks)
    (recursion_from_All (λ task. stays key task ≡ true) (without key tasks) (filter_passes (stays key) tasks))

pub without_forgets_put : (task : Task) (tasks : List Task) → IsNewKey task.key tasks → without task.key (put_in task tasks) ≡ tasks
without_forgets_put task tasks new = filter-put_in-dropped (stays task.key) task tasks (leaves task) ∙ without_new_key task.key tasks new

pub without_put_in : (key : Key) (task : Task) (tasks : List Task) → task.key ≢ key → IsAscending tasks → without key (put_in task tasks) ≡ put_in task (without key tasks)
without_put_in key task tasks differ up = filter-put_in-kept (stays key) task tasks (stays_from_differ key task differ) up

-- the first task leaves, or stays
pub without-first : (task : Task) (tasks : List Task) → IsNewKey task.key tasks → without task.key (task ∷ tasks) ≡ tasks
without-first task tasks new =
    ap (λ test. cond test (task ∷ without task.key tasks) (without task.key tasks)) (leaves task) ∙ without_new_key task.key tasks new

pub without-later : (key : Key) (task : Task) (tasks : List Task) → task.key ≢ key → without key (task ∷ tasks) ≡ task ∷ without key tasks
without-later key task tasks differ = ap (λ test. cond test (task ∷ without key tasks) (without key tasks)) (stays_from_differ key task differ)

restored_first : (task other : Task) (tasks : List Task) → IsAscending (other ∷ tasks) → other ≡ task → put_in task (without task.key (other ∷ tasks)) ≡ other ∷ tasks
restored_first task other tasks up same =
    subst (λ t. put_in t (without t.key (other ∷ tasks)) ≡ other ∷ tasks) same
    (ap (put_in other) (without-first other tasks (IsNewKey-rest other.key tasks up.0)) ∙ put_in-first other tasks up.0)

pub put_in_restores : (task : Task) (tasks : List Task) → IsAscending tasks → Contains tasks task → put_in task (without task.key tasks) ≡ tasks
put_in_restores task [] up has = absurd (omega (arith, has.1))
put_in_restores task (other ∷ tasks) up has =
    ⊎_elim
    (λ same. restored_first task other tasks up same)
    (λ rest. let earlier : key_cmp other.key task.key ≡ Less = later_than_first other task tasks up rest in
    ap (put_in task) (without-later task.key other tasks (differ_from_earlier other.key task.key earlier))
    ∙ put_in-behind task other (without task.key tasks) earlier ∙ ap (λ l. other ∷ l) (put_in_restores task tasks up.1 rest))
    (cases other task tasks has)

-- ---- picking twice

filters_step : {X : Type 0} (p q : X → Bool) (x : X) (xs : List X) (a b : Bool) → p x ≡ a → q x ≡ b → filter p (filter q xs) ≡ filter q (filter p xs)
    → filter p (cond b (x ∷ filter q xs) (filter q xs)) ≡ filter q (cond a (x ∷ filter p xs) (filter p xs))
filters_step p q x xs true true is-p is-q rest =
    cond-true (p x) (x ∷ filter p (filter q xs)) (filter p (filter q xs)) is-p ∙ ap (λ l. x ∷ l) rest ∙ sym (cond-true (q x) (x ∷ filter q (filter p xs)) (filter q (filter p xs)) is-q)
filters_step p q x xs true false is-p is-q rest = rest ∙ sym (cond-false (q x) (x ∷ filter q (filter p xs)) (filter q (filter p xs)) is-q)
filters_step p q x xs false true is-p is-q rest = cond-false (p x) (x ∷ filter p (filter q xs)) (filter p (filter q xs)) is-p ∙ rest
filters_step p q x xs false false is-p is-q rest = rest

filters_commute : {X : Type 0} (p q : X → Bool) (xs : List X) → filter p (filter q xs) ≡ filter q (filter p xs)
filters_commute p q [] = refl
filters_commute p q (x ∷ xs) = filters_step p q x xs _ _ refl refl (filters_commute p q xs)

pub without_without : (first second : Key) (tasks : List Task) → without first (without second tasks) ≡ without second (without first tasks)
without_without first second tasks = filters_commute (stays first) (stays second) tasks

-- ---- what is left

filter_has : (p : Task → Bool) (tasks : List Task) (task : Task) → p task ≡ true → Contains tasks task → Contains (filter p tasks) task
filter_has p [] task kept has = has
filter_has p (other ∷ tasks) task kept has =
    ⊎_elim
    (λ same. subst (λ test. Contains (cond test (other ∷ filter p tasks) (filter p tasks)) task) (sym (ap p same ∙ kept)) (subst (λ t. Contains (other ∷ filter p tasks) t) same (here other (filter p tasks))))
    (λ rest. cond_both (p other) (other ∷ filter p tasks) (filter p tasks) (λ l. Contains l task)
    (λ _. there other task (filter p tasks) (filter_has p tasks task kept rest)) (λ _. filter_has p tasks task kept rest))
    (cases other task tasks has)

has_filtered : (p : Task → Bool) (tasks : List Task) (task : Task) → Contains (filter p tasks) task → Contains tasks task
has_filtered p [] task = λ has. has
has_filtered p (other ∷ tasks) task = elim (p other) as (λ test. Contains (cond test (other ∷ filter p tasks) (filter p tasks)) task → Contains (other ∷ tasks) task) [
  | true ↦ λ has. ⊎_elim (λ same. subst (λ t. Contains (other ∷ tasks) t) same (here other tasks)) (λ rest. there other task tasks (has_filtered p tasks task rest)) (cases other task (filter p tasks) has)
  | false ↦ λ has. there other task tasks (has_filtered p tasks task has)
]

pub without_others : (key : Key) (tasks : List Task) (task : Task) → Contains (without key tasks) task ↔ (Contains tasks task × (task.key ≢ key))
without_others key tasks task = (
  λ has. (
    has_filtered (stays key) tasks task has,
    differ_from_stays key task (All-contains (λ other. stays key other ≡ true) (without key tasks) task (filter_passes (stays key) tasks) has),
  ),
  λ both. filter_has (stays key) tasks task (stays_from_differ key task both.1) both.0,
)
