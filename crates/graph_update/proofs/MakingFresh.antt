-- The fresh tasks of a task's children, one child at a time.
use Rattle.std.proofs.Common.{◌≡◌, ℕ, suc, ◌+◌, ◌<◌, List, [], ◌∷◌, ◌++◌, length, drop, get_or, sym, ap, subst, ◌∙◌, add-one, drop-cons, append_assoc}
use Rattle.std.specs.List.{AllByRecursion}
use Rattle.std.proofs.lemmas.List.Elements.{All-from_recursion, All-get_or}
use Rattle.task_order.specs.declared.key.Key.{Key}
use Rattle.task_order.specs.declared.task.Task.{Task}
use Rattle.task_order.specs.Key.{child_key}
use Rattle.task_order.specs.TaskList.{put_all, put_in}
use Rattle.rw_sets.specs.Accesses.{Accesses}
use Rattle.kdg_graph.specs.declared.change.Fresh.{Fresh}
use Rattle.kdg_graph.specs.Rewrite.{fresh_tasks}
use Rattle.app_laws.specs.declared.child.Child.{Child}
use Rattle.run_laws.specs.Events.{fresh_from}

module _ (children : List Child) (number : ℕ) (child : Child) (within : number < length children) (here : child ≡ get_or children number child) where
  left : drop number children ≡ child ∷ drop (suc number) children
  left = drop-cons children number child within ∙ ap (λ (first : Child). first ∷ drop (suc number) children) (sym here)

  -- what holds of all children holds of this one
  pub of_child : (P : Child → Type 0) → AllByRecursion P children → P child
  of_child P all = subst P (sym here) (All-get_or P children number child within (All-from_recursion P children all))

  -- with this child's task put in, the others are left
  pub one_more_put : (parent : Key) (tasks : List Task) → put_all (fresh_tasks (fresh_from parent (number + 1) (drop (number + 1) children))) (put_in (record { key = child_key parent number child.prio; body = child.body }) tasks)
      ≡ put_all (fresh_tasks (fresh_from parent number (drop number children))) tasks
  one_more_put parent tasks = rw add-one (sym (ap (λ (more : List Child). put_all (fresh_tasks (fresh_from parent number more)) tasks) left))

  -- with this child's task behind those that are made, the others are left
  pub one_more_task : (parent : Key) (made longer whole : List Fresh) (key : Key) (set : Accesses) → made ++ fresh_from parent number (drop number children) ≡ whole
      → key ≡ child_key parent number child.prio → set ≡ child.set → longer ≡ made ++ (record { task = record { key = key; body = child.body }; set = set }) ∷ []
      → longer ++ fresh_from parent (number + 1) (drop (number + 1) children) ≡ whole
  one_more_task parent made longer whole key set so_far key_is set_is longer_is =
      let one : Fresh = record { task = record { key = key; body = child.body }; set = set } in
      let rest = fresh_from parent (suc number) (drop (suc number) children) in
      let same : one ∷ rest ≡ fresh_from parent number (drop number children) =
      ap (λ (key : Key). let item : Fresh = record { task = record { key = key; body = child.body }; set = set } in item ∷ rest) key_is
      ∙ ap (λ (set : Accesses). let item : Fresh = record { task = record { key = child_key parent number child.prio; body = child.body }; set = set } in item ∷ rest) set_is
      ∙ ap (fresh_from parent number) (sym left) in
      rw (longer_is, add-one) (append_assoc made (one ∷ []) rest ∙ ap (λ more. made ++ more) same ∙ so_far)
