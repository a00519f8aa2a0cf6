-- What is left where the earliest of the pending tasks leaves.
use Rattle.std.proofs.Common.{◌≡◌, List, [], ◌∷◌, Option, Some, None, sym, ap, subst, ◌∙◌}
use Rattle.std.specs.Prelude.{IfNone, IfSome, slice_get}
use Rattle.task_order.specs.declared.key.Key.{Key}
use Rattle.task_order.specs.declared.task.Task.{Task}
use Rattle.task_order.specs.Laws.{AscendingKeysAreDistinct, EarliestGoesFirst, WithoutForgetsPut}
use Rattle.task_order.specs.TaskList.{IsAscending, without}

module _ (distinct : AscendingKeysAreDistinct) (earliest_first : EarliestGoesFirst) (forgets : WithoutForgetsPut) where
  without_first : (task : Task) (rest : List Task) → IsAscending (task ∷ rest) → without task.key (task ∷ rest) ≡ rest
  without_first task rest ascending =
      ap (without task.key) (sym (earliest_first task rest ascending.0)) ∙ forgets task rest (distinct (task ∷ rest) ascending).0

  pub earliest_left : (taken : Option Task) (old left : List Task) (key : Key) → IsAscending old → IfSome taken (λ task. old ≡ task ∷ left) → IfNone taken (old ≡ []) → IfNone taken (left ≡ [])
      → IfSome (slice_get old 0) (λ (first : Task). first.key ≡ key) → left ≡ without key old
  earliest_left None old left key ascending first empty stays_empty is = stays_empty ∙ ap (without key) (sym empty)
  earliest_left (Some task) old left key ascending first empty stays_empty is =
      let its : task.key ≡ key = subst (λ (tasks : List Task). IfSome (slice_get tasks 0) (λ (other : Task). other.key ≡ key)) first is in
      sym (subst (λ (k : Key). without k (task ∷ left) ≡ left) its (without_first task left (subst IsAscending first ascending)))
      ∙ ap (without key) (sym first)
