-- A task that acts on cells that are all home, by the laws of its application.
use Rattle.std.proofs.Common.{◌≡◌, ℕ, List, length, map, sym, ap, ◌∙◌, subst, arith}
use Rattle.task_order.specs.declared.task.Task.{Task}
use Rattle.rw_sets.specs.Accesses.{Accesses, IsInRange as AreBelow}
use Rattle.cell_store.specs.declared.cell.Cell.{Cell}
use Rattle.cell_store.specs.Home.{IsHome}
use Rattle.cell_store.specs.Cells.{part_of, cells_taken, cells_given, AreHome}
use Rattle.cell_store.specs.Values.{homes, values_of, AgreesWith, ChangesOnlyWritten}
use Rattle.cell_store.specs.Laws.{HomesByLocation, AgreementLasts, GivesNewValues}
use Rattle.app_laws.specs.declared.child.Child.{Child}
use Rattle.app_laws.specs.declared.app.Effect.{Effect}
use Rattle.app_laws.specs.declared.app.SetAnswer.{SetAnswer}
use Rattle.app_laws.specs.declared.app.SetAnswer.TheVariants as answer
use Rattle.app_laws.specs.Applications.{Application, IsLawful, IsFitTask, IsReady, IsTrueAnswer, IsDoneAtHome, handed, set_in}

module _ {V : Type 0} (app : Application V) (lawful : IsLawful app) (task : Task) (store : List (Cell V)) (fit : IsFitTask app task)
    (home : store ≡ homes (values_of store)) (cells : app.is_fit_cells (values_of store)) where
  -- the task's set
  abbrev pub declared : Accesses
  declared = set_in app (values_of store) task

  below : AreBelow declared (length (values_of store))
  below loc named = omega (arith, (lawful.sets_are_in_range task (values_of store) cells fit).below loc named, lawful.cells_are_counted (values_of store) cells)

  pub are_home : HomesByLocation V → AreHome store declared
  are_home by_location = subst (λ s. AreHome s declared) (sym home) (by_location.are_home (values_of store) declared below)

  pub ready : HomesByLocation V → IsReady app task store declared
  ready by_location = record {
    home = are_home by_location;
    taken = record { cells = values_of store; fit = cells; is = ap (λ s. part_of s declared) home };
  }

  agrees : AgreementLasts V → AgreesWith store (values_of store)
  agrees agreement = subst (λ s. AgreesWith s (values_of store)) (sym home) (agreement.of_homes (values_of store))

  is_true : AgreementLasts V → (found : SetAnswer) → found ≡ app.walk task.body store → IsTrueAnswer app declared store found
  is_true agreement found is = subst (IsTrueAnswer app declared store) (sym is) (lawful.walks_are_true task store (values_of store) cells fit (agrees agreement))

  pub never_out : HomesByLocation V → AgreementLasts V → (loc : ℕ) → answer.Out loc ≡ app.walk task.body store → ⊥
  never_out by_location agreement loc is =
      let out = is_true agreement (answer.Out loc) is in
      subst IsHome out.0 (are_home by_location loc out.1)

  pub known_is : AgreementLasts V → (set : Accesses) → answer.Known set ≡ app.walk task.body store → set ≡ declared
  known_is agreement set is = is_true agreement (answer.Known set) is

  -- where the task is done at home on its set, the new cells are those that its operator makes
  module _ (set : Accesses) (found : set ≡ declared) where
    part_is : part_of store set ≡ part_of (homes (values_of store)) declared
    part_is = ap (part_of store) found ∙ ap (λ s. part_of s declared) home

    taken_is : cells_taken store set ≡ cells_taken (homes (values_of store)) declared
    taken_is = ap (cells_taken store) found ∙ ap (λ s. cells_taken s declared) home

    changes : ChangesOnlyWritten declared (values_of store) (app.act task (values_of store)).cells
    changes = record {
      as_many = lawful.cells_are_counted (app.act task (values_of store)).cells (lawful.acts_are_fit task (values_of store) cells fit).cells ∙ sym (lawful.cells_are_counted (values_of store) cells);
      elsewhere = lawful.acts_are_local.unchanged task (values_of store) cells fit;
    }

    pub new_is : GivesNewValues V → (children : List Child) (text : List ℕ) (new : List (Cell V)) → IsDoneAtHome app task set store children text new
        → new ≡ homes (app.act task (values_of store)).cells
    new_is new_values children text new done =
        done.given
        ∙ ap (λ (e : Effect V). cells_given (cells_taken store set) e.bundle) (done.effect (values_of store) cells part_is)
        ∙ ap (λ t. cells_given t (part_of (homes (app.act task (values_of store)).cells) declared)) taken_is
        ∙ new_values (values_of store) (app.act task (values_of store)).cells declared changes

    pub children_are : (children : List Child) (text : List ℕ) (new : List (Cell V)) → IsDoneAtHome app task set store children text new
        → children ≡ map (handed app (app.act task (values_of store)).cells) (app.act task (values_of store)).children
    children_are children text new done = ap (λ (e : Effect V). e.children) (done.effect (values_of store) cells part_is)

    pub text_is : (children : List Child) (text : List ℕ) (new : List (Cell V)) → IsDoneAtHome app task set store children text new → text ≡ (app.act task (values_of store)).text
    text_is children text new done = ap (λ (e : Effect V). e.text) (done.effect (values_of store) cells part_is)
