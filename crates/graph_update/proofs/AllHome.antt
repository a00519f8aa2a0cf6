-- What sets are declared in cells that are all home.
use Rattle.std.proofs.Common.{◌≡◌, ℕ, List, length, sym, subst, arith}
use Rattle.task_order.specs.declared.task.Task.{Task}
use Rattle.rw_sets.specs.Accesses.{Accesses, IsInRange as AreBelow}
use Rattle.cell_store.specs.declared.cell.Cell.{Cell}
use Rattle.cell_store.specs.Home.{IsHome}
use Rattle.cell_store.specs.Cells.{AreHome}
use Rattle.cell_store.specs.Values.{homes, values_of, AgreesWith}
use Rattle.cell_store.specs.Laws.{HomesByLocation, AgreementLasts}
use Rattle.app_laws.specs.declared.app.SetAnswer.{SetAnswer}
use Rattle.app_laws.specs.declared.app.SetAnswer.TheVariants as answer
use Rattle.app_laws.specs.Applications.{Application, IsLawful, IsFitTask, IsTrueAnswer, set_in}

module _ {V : Type 0} (app : Application V) (lawful : IsLawful app) (task : Task) (store : List (Cell V)) (fit : IsFitTask app task)
    (home : store ≡ homes (values_of store)) (cells : app.is_fit_cells (values_of store)) (by_location : HomesByLocation V) (agreement : AgreementLasts V) where
  abbrev declared : Accesses
  declared = set_in app (values_of store) task

  below : AreBelow declared (length (values_of store))
  below loc named = omega (arith, (lawful.sets_are_in_range task (values_of store) cells fit).below loc named, lawful.cells_are_counted (values_of store) cells)

  are_home : AreHome store declared
  are_home = subst (λ held. AreHome held declared) (sym home) (by_location.are_home (values_of store) declared below)

  agrees : AgreesWith store (values_of store)
  agrees = subst (λ held. AgreesWith held (values_of store)) (sym home) (agreement.of_homes (values_of store))

  is_true : (found : SetAnswer) → found ≡ app.walk task.body store → IsTrueAnswer app declared store found
  is_true found is = subst (IsTrueAnswer app declared store) (sym is) (lawful.walks_are_true task store (values_of store) cells fit agrees)

  -- the walk never meets a cell that is out, and finds the declared set
  pub never_out : (loc : ℕ) → answer.Out loc ≡ app.walk task.body store → ⊥
  never_out loc is =
      let out = is_true (answer.Out loc) is in
      subst IsHome out.0 (are_home loc out.1)

  pub known_is : (set : Accesses) → answer.Known set ≡ app.walk task.body store → set ≡ declared
  known_is set is = is_true (answer.Known set) is
