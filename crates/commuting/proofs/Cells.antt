-- Two tasks that don't conflict act on the cells in either order.
use Rattle.std.proofs.Common.{◌≡◌, ℕ, suc, Bool, true, false, List, [], ◌∷◌, Option, Some, None, refl, sym, ap, ◌∙◌}
use Rattle.std.specs.Prelude.{IsSome, IsFalse, is_some, slice_get}
use Rattle.std.proofs.lemmas.Bool.{true≢false}
use Rattle.task_order.specs.declared.task.Task.{Task}
use Rattle.rw_sets.specs.declared.access.Access.{Access}
use Rattle.rw_sets.specs.Accesses.{Accesses, access_at, allows_write, writes, Conflicts}
use Rattle.app_laws.specs.Applications.{Application, AgreeOn, IsFitTask, IsSameOutcome, set_in}
use Rattle.commuting.specs.States.{entry_of}
use Rattle.commuting.specs.Basis.{Basis}

-- lists with the same values at all places are the same
same_by_place : {X : Type 0} (xs ys : List X) → ((i : ℕ) → slice_get xs i ≡ slice_get ys i) → xs ≡ ys
same_by_place [] [] each = refl
same_by_place [] (y ∷ ys) each = let never = each 0 in cc
same_by_place (x ∷ xs) [] each = let never = each 0 in cc
same_by_place (x ∷ xs) (y ∷ ys) each =
    let first = each 0 in
    let rest = same_by_place xs ys (λ i. each (suc i)) in
    cc

-- what a set lacks it does not write
unwritten_where_lacking : (set : Accesses) (loc : ℕ) → is_some (access_at set loc) ≡ false → IsFalse (writes set loc)
unwritten_where_lacking set loc lacking = go (access_at set loc) lacking
  where
    go : (access : Option Access) → is_some access ≡ false → allows_write access ≡ false
    go None lacking = refl
    go (Some access) lacking = absurd (true≢false lacking)

module _ {V : Type 0} (app : Application V) where
  -- a task acts on cells in which another's set doesn't conflict with its own
  pub record IsAside (cells : List V) (task other : Task) : Type 0 where
    pub fit_cells : app.is_fit_cells cells
    pub fit_task : IsFitTask app task
    pub fit_other : IsFitTask app other
    pub apart : ¬ Conflicts (set_in app cells task) (set_in app cells other)

module _ {V : Type 0} {app : Application V} (basis : Basis app) where
  -- a set that doesn't conflict with another writes nothing that the other has
  unwritten : (set other : Accesses) → ¬ Conflicts set other → (loc : ℕ) → IsSome (access_at other loc) → IsFalse (writes set loc)
  unwritten set other apart loc named = go (writes set loc) refl
    where
      go : (written : Bool) → writes set loc ≡ written → written ≡ false
      go true is = absurd (true≢false (sym named ∙ ap is_some (((basis.lower.independent set other).0 apart).left_writes loc is)))
      go false is = refl

  pub aside_turned : (cells : List V) (task other : Task) → IsAside app cells task other → IsAside app cells other task
  aside_turned cells task other aside = record {
    fit_cells = aside.fit_cells;
    fit_task = aside.fit_other;
    fit_other = aside.fit_task;
    apart = λ conflict. aside.apart (basis.lower.turned (set_in app cells other) (set_in app cells task) conflict);
  }

  module _ (cells : List V) (task other : Task) (aside : IsAside app cells task other) where
    -- the other finds the cells of its set as they were
    pub agree_after : AgreeOn (set_in app cells other) cells (app.act task cells).cells
    agree_after loc named =
        sym (basis.lawful.acts_are_local.unchanged task cells aside.fit_cells aside.fit_task loc
        (unwritten (set_in app cells task) (set_in app cells other) aside.apart loc named))

    pub fit_after : app.is_fit_cells (app.act task cells).cells
    fit_after = (basis.lawful.acts_are_fit task cells aside.fit_cells aside.fit_task).cells

    -- its set is unchanged
    pub same_set : set_in app (app.act task cells).cells other ≡ set_in app cells other
    same_set = basis.lawful.sets_are_local other cells (app.act task cells).cells aside.fit_cells fit_after aside.fit_other agree_after

    -- and it does the same
    pub same_outcome : IsSameOutcome app (set_in app cells other) (app.act other cells) (app.act other (app.act task cells).cells)
    same_outcome = basis.lawful.acts_are_local.determined other cells (app.act task cells).cells aside.fit_cells fit_after aside.fit_other agree_after

    pub same_entry : entry_of app.act (app.act task cells).cells other ≡ entry_of app.act cells other
    same_entry = ap (λ text. (other.key, text)) (sym same_outcome.text)

    -- a location that the other's set lacks is left as the task made it
    unchanged_by_other : (loc : ℕ) → IsFalse (writes (set_in app cells other) loc)
        → slice_get (app.act other (app.act task cells).cells).cells loc ≡ slice_get (app.act task cells).cells loc
    unchanged_by_other loc unwritten-there =
        basis.lawful.acts_are_local.unchanged other (app.act task cells).cells fit_after aside.fit_other loc
        (ap (λ set. writes set loc) same_set ∙ unwritten-there)

  module _ (cells : List V) (task other : Task) (aside : IsAside app cells task other) where
    same_cell : (loc : ℕ) (named first : Bool) → is_some (access_at (set_in app cells other) loc) ≡ named → is_some (access_at (set_in app cells task) loc) ≡ first
        → slice_get (app.act other (app.act task cells).cells).cells loc ≡ slice_get (app.act task (app.act other cells).cells).cells loc
    same_cell loc true first is is-first =
        let turned = aside_turned cells task other aside in
        sym ((same_outcome cells task other aside).cells loc is)
        ∙ sym (unchanged_by_other cells other task turned loc (unwritten (set_in app cells task) (set_in app cells other) aside.apart loc is))
    same_cell loc false true is is-first =
        let turned = aside_turned cells task other aside in
        unchanged_by_other cells task other aside loc (unwritten_where_lacking (set_in app cells other) loc is)
        ∙ (same_outcome cells other task turned).cells loc is-first
    same_cell loc false false is is-first =
        let turned = aside_turned cells task other aside in
        let here = unwritten_where_lacking (set_in app cells other) loc is in
        let there = unwritten_where_lacking (set_in app cells task) loc is-first in
        unchanged_by_other cells task other aside loc here
        ∙ basis.lawful.acts_are_local.unchanged task cells aside.fit_cells aside.fit_task loc there
        ∙ sym (basis.lawful.acts_are_local.unchanged other cells aside.fit_cells aside.fit_other loc here)
        ∙ sym (unchanged_by_other cells other task turned loc there)

    -- the cells are the same in either order
    pub same_cells : (app.act other (app.act task cells).cells).cells ≡ (app.act task (app.act other cells).cells).cells
    same_cells = same_by_place _ _ (λ loc. same_cell loc (is_some (access_at (set_in app cells other) loc)) (is_some (access_at (set_in app cells task) loc)) refl refl)
