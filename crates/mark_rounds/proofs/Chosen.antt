-- The tasks of a list that pass a test, chosen one by one.
use Rattle.std.proofs.Common.{◌≡◌, ℕ, suc, ◌+◌, Bool, true, false, cond, List, [], ◌∷◌, ◌++◌, drop, Some, sym, ap, ◌∙◌, append_assoc, add-one}
use Rattle.std.specs.Prelude.{slice_get}
use Rattle.std.specs.List.{filter}
use Rattle.plain_laws.specs.Lists.{drop-found}
use Rattle.task_order.specs.declared.task.Task.{Task}

module _ (test : Task → Bool) (tasks : List Task) (i : ℕ) (task : Task) (made whole : List Task) (at : slice_get tasks i ≡ Some task) (so_far : made ++ filter test (drop i tasks) ≡ whole) where
  rest_is : (b : Bool) → test task ≡ b → filter test (drop i tasks) ≡ cond b (task ∷ filter test (drop (suc i) tasks)) (filter test (drop (suc i) tasks))
  rest_is b is =
      ap (filter test) (drop-found tasks i task at)
      ∙ ap (λ (b : Bool). cond b (task ∷ filter test (drop (suc i) tasks)) (filter test (drop (suc i) tasks))) is

  pub one_more_passes : (copy : Task) → copy ≡ task → test task ≡ true → (made ++ copy ∷ []) ++ filter test (drop (i + 1) tasks) ≡ whole
  one_more_passes copy same is =
      rw (same, add-one)
      (append_assoc made (task ∷ []) (filter test (drop (suc i) tasks)) ∙ ap (λ (rest : List Task). made ++ rest) (sym (rest_is true is)) ∙ so_far)

  pub one_fails : test task ≡ false → made ++ filter test (drop (i + 1) tasks) ≡ whole
  one_fails is = rw add-one (ap (λ (rest : List Task). made ++ rest) (sym (rest_is false is)) ∙ so_far)
