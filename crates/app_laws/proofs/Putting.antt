-- Putting numbered tasks among pending ones, one at a time.
use Rattle.std.proofs.Common.{◌≡◌, ◌≢◌, ℕ, suc, ◌+◌, ◌<◌, List, [], ◌∷◌, length, drop, get_or, sym, ap, ◌∙◌, subst, arith, add-one, drop-cons}
use Rattle.std.specs.List.{AllByRecursion}
use Rattle.std.proofs.lemmas.List.{get_or-map, length-map}
use Rattle.plain_laws.specs.Lists.{All-joined}
use Rattle.task_order.specs.declared.key.Key.{Key}
use Rattle.task_order.specs.declared.start.Start.{Start}
use Rattle.task_order.specs.declared.task.Task.{Task}
use Rattle.task_order.specs.Key.{child_key}
use Rattle.task_order.specs.TaskList.{IsNewKey, put_in, put_all}
use Rattle.task_order.specs.TaskListLaws.{All-put_in}
use Rattle.app_laws.specs.declared.child.Child.{Child}
use Rattle.app_laws.specs.Applications.{starts_of}
use Rattle.app_laws.specs.Execution.{children_from, first_from}
use Rattle.app_laws.proofs.Apart.{children_apart, first_apart}
use Rattle.app_laws.specs.ApartLaws.{differ_from_no_prefix, TasksApart}

-- tasks whose keys are new among the pending ones, and that give the whole when they are put in
pub record IsLeft (tasks pending whole : List Task) : Type 0 where
  pub puts : put_all tasks pending ≡ whole
  pub new : AllByRecursion (λ task. IsNewKey task.key pending) tasks

pub left_after_one : (task : Task) (tasks pending whole : List Task) → AllByRecursion (TasksApart task) tasks
    → IsLeft (task ∷ tasks) pending whole → IsLeft tasks (put_in task pending) whole
left_after_one task tasks pending whole apart left = record {
  puts = left.puts;
  new = All-joined (TasksApart task) (λ later. IsNewKey later.key pending) (λ later. IsNewKey later.key (put_in task pending))
      (λ later pair new. All-put_in (λ other. other.key ≢ later.key) task pending (λ same. differ_from_no_prefix task.key.path later.key.path pair.not_before (ap (λ (key : Key). key.path) same)) new)
      tasks apart left.new.1;
}

-- the children from a place on, of which the first is put in
module _ (parent : Key) (children : List Start) (number : ℕ) (d : Start) (pending whole : List Task) (within : number < length children) (left : IsLeft (children_from parent number (drop number children)) pending whole) where
  first_child_left : IsLeft (children_from parent number (get_or children number d ∷ drop (suc number) children)) pending whole
  first_child_left = subst (λ cs. IsLeft (children_from parent number cs) pending whole) (drop-cons children number d within) left

  pub children_left : (key : Key) (pending' : List Task) → key ≡ child_key parent number (get_or children number d).prio
      → pending' ≡ put_in (record { key = key; body = (get_or children number d).body }) pending
      → IsLeft (children_from parent (number + 1) (drop (number + 1) children)) pending' whole
  children_left key pending' is put =
      let child = get_or children number d in
      let task : Task = record { key = child_key parent number child.prio; body = child.body } in
      let rest = drop (suc number) children in
      rw (put, is, add-one) (left_after_one task (children_from parent (suc number) rest) pending whole (children_apart parent number (child ∷ rest)).0 first_child_left)

-- the same of children with sets
module _ (parent : Key) (children : List Child) (number : ℕ) (child : Child) (pending whole : List Task) (within : number < length children) (here : child ≡ get_or children number child)
    (left : IsLeft (children_from parent number (drop number (starts_of children))) pending whole) where
  start-is : get_or (starts_of children) number (record { prio = child.prio; body = child.body }) ≡ record { prio = child.prio; body = child.body }
  start-is =
      get_or-map (λ (c : Child). let s : Start = record { prio = c.prio; body = c.body } in s) children number child (record { prio = child.prio; body = child.body }) within
      ∙ ap (λ (c : Child). let s : Start = record { prio = c.prio; body = c.body } in s) (sym here)

  within-starts : number < length (starts_of children)
  within-starts = omega (arith, length-map children (λ (c : Child). let s : Start = record { prio = c.prio; body = c.body } in s))

  pub handed_left : (key : Key) (pending' : List Task) → key ≡ child_key parent number child.prio → pending' ≡ put_in (record { key = key; body = child.body }) pending
      → IsLeft (children_from parent (number + 1) (drop (number + 1) (starts_of children))) pending' whole
  handed_left key pending' is put =
      children_left parent (starts_of children) number (record { prio = child.prio; body = child.body }) pending whole within-starts left key pending'
      (is ∙ ap (λ (s : Start). child_key parent number s.prio) (sym start-is))
      (put ∙ ap (λ (s : Start). put_in (record { key = key; body = s.body }) pending) (sym start-is))

  pub handed_new : (key : Key) → key ≡ child_key parent number child.prio → IsNewKey key pending
  handed_new key is =
      let new = (first_child_left parent (starts_of children) number (record { prio = child.prio; body = child.body }) pending whole within-starts left).new.0 in
      subst (λ k. IsNewKey k pending) (ap (λ (s : Start). child_key parent number s.prio) start-is ∙ sym is) new

-- the first tasks from a place on, of which the first is put in
module _ (first : List Start) (number : ℕ) (d : Start) (pending whole : List Task) (within : number < length first) (left : IsLeft (first_from number (drop number first)) pending whole) where
  first_task_left : IsLeft (first_from number (get_or first number d ∷ drop (suc number) first)) pending whole
  first_task_left = subst (λ starts. IsLeft (first_from number starts) pending whole) (drop-cons first number d within) left

  pub first_left : (path : List ℕ) (pending' : List Task) → path ≡ number ∷ []
      → pending' ≡ put_in (record { key = record { prio = (get_or first number d).prio; path = path }; body = (get_or first number d).body }) pending
      → IsLeft (first_from (number + 1) (drop (number + 1) first)) pending' whole
  first_left path pending' is put =
      let start = get_or first number d in
      let task : Task = record { key = record { prio = start.prio; path = number ∷ [] }; body = start.body } in
      let rest = drop (suc number) first in
      rw (put, is, add-one) (left_after_one task (first_from (suc number) rest) pending whole (first_apart number (start ∷ rest)).0 first_task_left)
