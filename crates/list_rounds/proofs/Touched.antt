-- The pending tasks of which a horizon tells, before and after a task acts.
use Rattle.std.proofs.Common.{◌≡◌, ℕ, suc, ◌+◌, ◌<◌, List, ◌∷◌, ◌++◌, length, drop, get_or, sym, ap, subst, ◌∙◌, add-one, drop-cons}
use Rattle.std.specs.Prelude.{Contains}
use Rattle.task_order.specs.declared.key.Key.{Key}
use Rattle.task_order.specs.declared.task.Task.{Task}
use Rattle.task_order.specs.Key.{child_key}
use Rattle.task_order.specs.Laws.{PutRestoresWithout}
use Rattle.task_order.specs.TaskList.{IsAscending, put_all, put_in, without}
use Rattle.task_order.specs.TaskListLaws.{IsSplit, put_splits}
use Rattle.app_laws.specs.declared.child.Child.{Child}
use Rattle.app_laws.specs.Applications.{starts_of}
use Rattle.app_laws.specs.Execution.{children_from}

-- what is told of all tasks is told of what comes of the others, once the task went
pub told_of_others : PutRestoresWithout → (task : Task) (tasks : List Task) → IsAscending tasks → Contains tasks task → (Before After : List Task → Type 0)
    → ((before after : List Task) → Before (before ++ task ∷ after) → After (before ++ after)) → Before tasks → After (without task.key tasks)
told_of_others restores task tasks ascending there Before After went told =
    let split = subst (λ (all : List Task). IsSplit task all (without task.key tasks)) (restores task tasks ascending there) (put_splits task (without task.key tasks)) in
    subst After (sym split.others) (went split.before split.after (subst Before split.all told))

-- with the task of the child at a number put in, the others are left
module _ (children : List Child) (number : ℕ) (child : Child) (within : number < length children) (here : child ≡ get_or children number child) where
  left : drop number children ≡ child ∷ drop (suc number) children
  left = drop-cons children number child within ∙ ap (λ (first : Child). first ∷ drop (suc number) children) (sym here)

  pub one_more_put : (parent : Key) (tasks : List Task) → put_all (children_from parent (number + 1) (starts_of (drop (number + 1) children))) (put_in (record { key = child_key parent number child.prio; body = child.body }) tasks)
      ≡ put_all (children_from parent number (starts_of (drop number children))) tasks
  one_more_put parent tasks = rw add-one (sym (ap (λ (more : List Child). put_all (children_from parent number (starts_of more)) tasks) left))
