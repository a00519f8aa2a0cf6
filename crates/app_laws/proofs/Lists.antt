-- Facts of all items, and of all pairs of items, as a list changes.
use Rattle.std.proofs.Common.{List, [], ◌∷◌, ◌++◌}
use Rattle.std.specs.List.{AllByRecursion}
use Rattle.std.specs.Ordering.{is_lt}
use Rattle.std.proofs.lemmas.Bool.{cond_both}
use Rattle.plain_laws.specs.Lists.{All-push}
use Rattle.task_order.specs.declared.task.Task.{Task}
use Rattle.task_order.specs.Key.{key_cmp}
use Rattle.task_order.specs.TaskList.{put_in}
use Rattle.task_order.specs.TaskListLaws.{All-put_in}
use Rattle.app_laws.specs.Order.{Pairwise}

pub Pairwise-push : {X : Type 0} (R : X → X → Type 0) (xs : List X) (x : X) → Pairwise R xs → AllByRecursion (λ y. R y x) xs → Pairwise R (xs ++ x ∷ [])
Pairwise-push R [] x pairs all = (tt, tt)
Pairwise-push R (y ∷ xs) x pairs all = (All-push (R y) xs x pairs.0 all.0, Pairwise-push R xs x pairs.1 all.1)

pub Pairwise-put_in : (R : Task → Task → Type 0) → ((a b : Task) → R a b → R b a) → (task : Task) (tasks : List Task) → AllByRecursion (R task) tasks → Pairwise R tasks → Pairwise R (put_in task tasks)
Pairwise-put_in R turned task [] all pairs = (tt, tt)
Pairwise-put_in R turned task (other ∷ tasks) all pairs =
    cond_both (is_lt (key_cmp other.key task.key)) (other ∷ put_in task tasks) (task ∷ other ∷ tasks) (λ ts. Pairwise R ts)
    (λ _. (All-put_in (R other) task tasks (turned task other all.0) pairs.0, Pairwise-put_in R turned task tasks all.1 pairs.1))
    (λ _. (all, pairs))
