-- Pending tasks by their priorities alone.
use Rattle.std.specs.Prelude.{◌≡◌, ℕ, suc, ◌≤◌, List, [], ◌∷◌, refl}
use Rattle.std.specs.List.{AllByRecursion}
use Rattle.std.specs.Ordering.{is_lt}
use Rattle.std.proofs.Common.{arith, ap, inl, inr, ◌⊎◌}
use Rattle.std.proofs.lemmas.Bool.{cond_both}
use Rattle.plain_laws.specs.Lists.{All-weaker}
use Rattle.task_order.specs.declared.key.Key.{Key}
use Rattle.task_order.specs.declared.start.Start.{Start}
use Rattle.task_order.specs.declared.task.Task.{Task}
use Rattle.task_order.specs.Key.{key_cmp}
use Rattle.task_order.specs.TaskList.{put_in, put_all}
use Rattle.task_order.specs.TaskListLaws.{All-put_in}
use Rattle.task_order.specs.KeyLaws.{earlier_prio, later_prio}
use Rattle.app_laws.specs.Execution.{children_from}
use Rattle.mtx_reader.specs.Ascending.{IsIn}

-- priorities don't fall
abbrev pub IsByPriority : List Task → Type 0
IsByPriority [] = Unit {0}
IsByPriority (task ∷ tasks) = AllByRecursion (λ other. task.key.prio ≤ other.key.prio) tasks × IsByPriority tasks

-- ---- what is so of each

pub all_children : (P : Task → Type 0) (parent : Key) (number : ℕ) (starts : List Start) → ((task : Task) → IsIn starts (record { prio = task.key.prio; body = task.body }) → P task) → AllByRecursion P (children_from parent number starts)
all_children P parent number [] each = tt
all_children P parent number (start ∷ starts) each = (each _ (inl refl), all_children P parent (suc number) starts (λ task there. each task (inr there)))

-- ---- order

pub put_by_priority : (task : Task) (tasks : List Task) → IsByPriority tasks → IsByPriority (put_in task tasks)
put_by_priority task [] up = (tt, tt)
put_by_priority task (other ∷ tasks) up =
    cond_both (is_lt (key_cmp other.key task.key)) (other ∷ put_in task tasks) (task ∷ other ∷ tasks) IsByPriority
    (λ before. (All-put_in (λ (t : Task). other.key.prio ≤ t.key.prio) task tasks (earlier_prio other.key task.key before) up.0, put_by_priority task tasks up.1))
    (λ after. let low : task.key.prio ≤ other.key.prio = later_prio other.key task.key after in
    ((low, All-weaker (λ (t : Task). other.key.prio ≤ t.key.prio) (λ (t : Task). task.key.prio ≤ t.key.prio) (λ t above. omega (arith, low, above)) tasks up.0), up))

pub put_all_by_priority : (new tasks : List Task) → IsByPriority tasks → IsByPriority (put_all new tasks)
put_all_by_priority [] tasks up = up
put_all_by_priority (task ∷ new) tasks up = put_all_by_priority new (put_in task tasks) (put_by_priority task tasks up)

-- ---- membership

there_put : (task x : Task) (tasks : List Task) → (task ≡ x) ⊎ IsIn tasks x → IsIn (put_in task tasks) x
there_put task x [] (inl is) = inl is
there_put task x [] (inr there) = absurd there
there_put task x (other ∷ tasks) there =
    cond_both (is_lt (key_cmp other.key task.key)) (other ∷ put_in task tasks) (task ∷ other ∷ tasks) (λ (ts : List Task). IsIn ts x)
    (λ before. by_place (there_put task x tasks) there) (λ after. there)
  where
    by_place : ((task ≡ x) ⊎ IsIn tasks x → IsIn (put_in task tasks) x) → (task ≡ x) ⊎ IsIn (other ∷ tasks) x → IsIn (other ∷ put_in task tasks) x
    by_place later (inl is) = inr (later (inl is))
    by_place later (inr (inl is)) = inl is
    by_place later (inr (inr there)) = inr (later (inr there))

pub stays_there : (new tasks : List Task) (x : Task) → IsIn tasks x → IsIn (put_all new tasks) x
stays_there [] tasks x there = there
stays_there (task ∷ new) tasks x there = stays_there new (put_in task tasks) x (there_put task x tasks (inr there))

pub comes_there : (new tasks : List Task) (x : Task) → IsIn new x → IsIn (put_all new tasks) x
comes_there [] tasks x there = absurd there
comes_there (task ∷ new) tasks x (inl is) = stays_there new (put_in task tasks) x (there_put task x tasks (inl is))
comes_there (task ∷ new) tasks x (inr there) = comes_there new (put_in task tasks) x there

-- each child is among the tasks
pub child_there : (parent : Key) (number : ℕ) (starts : List Start) (start : Start) → IsIn starts start
    → (task : Task) × IsIn (children_from parent number starts) task × (task.key.prio ≡ start.prio) × (task.body ≡ start.body)
child_there parent number [] start there = absurd there
child_there parent number (first ∷ starts) start (inl is) = (_, inl refl, ap (λ (s : Start). s.prio) is, ap (λ (s : Start). s.body) is)
child_there parent number (first ∷ starts) start (inr there) = let found = child_there parent (suc number) starts start there in (found.0, inr found.1, found.2, found.3)
