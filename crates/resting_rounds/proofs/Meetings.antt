-- A task is clear just where it meets no earlier one.
use Rattle.std.proofs.Common.{◌≡◌, ◌<◌, ℕ, Bool, true, false, not, ◌&&◌, ◌||◌, List, [], ◌∷◌, Option, Some, None, IsSome, IsTrue, refl, sym, ap, ◌∙◌}
use Rattle.std.specs.List.{list_any}
use Rattle.std.proofs.lemmas.Bool.{false≢true, or_parts}
use Rattle.plain_laws.specs.Lists.{All-filter}
use Rattle.task_order.specs.declared.task.Task.{Task}
use Rattle.task_order.specs.TaskList.{tasks_before}
use Rattle.rw_sets.specs.declared.access.Access.{Access}
use Rattle.rw_sets.specs.declared.access.Access.TheVariants.{Read, Write}
use Rattle.rw_sets.specs.Accesses.{access_at, allows_write, clash, conflicts_with, writes}
use Rattle.rw_sets.specs.AccessLaws.{has_from_writes}
use Rattle.app_laws.specs.Applications.{Application, AreFitTasks, IsFitTask, set_in}
use Rattle.commuting.specs.Clear.{IsReady}
use Rattle.commuting.specs.Rounds.{is_clear}
use Rattle.commuting.specs.States.{State}
use Rattle.resting_rounds.specs.Basis.{Basis}
use Rattle.resting_rounds.specs.Sets.{AreApart, any_has}
use Rattle.resting_rounds.specs.Waiting.{MeetsEarlierAt}

-- two writes exclude one another
both_clash : (x y : Option Access) → IsTrue (allows_write x) → IsTrue (allows_write y) → IsTrue (clash x y)
both_clash None y one other = absurd (false≢true one)
both_clash (Some x) None one other = absurd (false≢true other)
both_clash (Some Read) (Some y) one other = absurd (false≢true one)
both_clash (Some Write) (Some y) one other = refl

both_named : (x y : Option Access) → IsTrue (clash x y) → IsSome x × IsSome y
both_named None y both = absurd (false≢true both)
both_named (Some x) None both = absurd (false≢true both)
both_named (Some x) (Some y) both = (refl, refl)

-- where one of two tests passes, so does one of those that follow from them
some_of : (one two first second : Bool) → (one || two) ≡ true → (one ≡ true → first ≡ true) → (two ≡ true → second ≡ true) → (first || second) ≡ true
some_of true two first second some here later = ap (λ (b : Bool). b || second) (here refl)
some_of false two true second some here later = refl
some_of false two false second some here later = later some

module _ {V : Type 0} (app : Application V) (basis : Basis app) where
  -- a set has locations of the application
  pub in_range : (cells : List V) → app.is_fit_cells cells → (task : Task) → IsFitTask app task → (loc : ℕ) → IsTrue (writes (set_in app cells task) loc) → loc < app.count
  in_range cells fit task fit_task loc own = (basis.lawful.sets_are_in_range task cells fit fit_task).below loc (has_from_writes (set_in app cells task) loc own)

  meets_one : (cells : List V) (task other : Task) (loc : ℕ) → IsTrue (writes (set_in app cells task) loc) → IsTrue (writes (set_in app cells other) loc)
      → conflicts_with (set_in app cells other) (set_in app cells task) ≡ true
  meets_one cells task other loc own too =
      let one = set_in app cells other in
      let two = set_in app cells task in
      (basis.decided one two).1 (loc, both_clash (access_at one loc) (access_at two loc) too own)

  meets_some : (cells : List V) (task : Task) (loc : ℕ) (others : List Task) → IsTrue (writes (set_in app cells task) loc) → any_has app cells others loc ≡ true
      → list_any (λ other. conflicts_with (set_in app cells other) (set_in app cells task)) others ≡ true
  meets_some cells task loc [] own too = absurd (false≢true too)
  meets_some cells task loc (other ∷ others) own too =
      some_of (writes (set_in app cells other) loc) (any_has app cells others loc) _ _ too (meets_one cells task other loc own) (meets_some cells task loc others own)

  apart_one : (cells : List V) (task other : Task) → app.is_fit_cells cells → IsFitTask app task → IsFitTask app other → AreApart app (writes (set_in app cells other)) cells task
      → conflicts_with (set_in app cells other) (set_in app cells task) ≡ false
  apart_one cells task other fit fit_task fit_other apart = by_test (conflicts_with (set_in app cells other) (set_in app cells task)) refl
    where
      by_test : (both : Bool) → conflicts_with (set_in app cells other) (set_in app cells task) ≡ both → both ≡ false
      by_test false is = refl
      by_test true is =
          let conflict = (basis.decided (set_in app cells other) (set_in app cells task)).0 is in
          let named = both_named (access_at (set_in app cells other) conflict.0) (access_at (set_in app cells task) conflict.0) conflict.1 in
          let too = basis.resting.written other cells conflict.0 fit fit_other named.0 in
          let own = basis.resting.written task cells conflict.0 fit fit_task named.1 in
          absurd (false≢true (sym (apart conflict.0 own) ∙ too))

  apart_all : (cells : List V) (task : Task) (others : List Task) → app.is_fit_cells cells → IsFitTask app task → AreFitTasks app others → AreApart app (any_has app cells others) cells task
      → list_any (λ other. conflicts_with (set_in app cells other) (set_in app cells task)) others ≡ false
  apart_all cells task [] fit fit_task all apart = refl
  apart_all cells task (other ∷ others) fit fit_task all apart =
      let both = λ (loc : ℕ) (own : IsTrue (writes (set_in app cells task) loc)). or_parts (writes (set_in app cells other) loc) (any_has app cells others loc) (apart loc own) in
      let here = apart_one cells task other fit fit_task all.0 (λ loc own. (both loc own).0) in
      let later = apart_all cells task others fit fit_task all.1 (λ loc own. (both loc own).1) in
      ap (λ (b : Bool). b || list_any (λ next. conflicts_with (set_in app cells next) (set_in app cells task)) others) here ∙ later

  module _ (state : State V) (ready : IsReady app state) (task : Task) (fit : IsFitTask app task) where
    safe : app.is_safe task (tasks_before task.key state.pending) ≡ true
    safe = basis.resting.safe task (tasks_before task.key state.pending) fit (All-filter (IsFitTask app) _ state.pending ready.tasks)

    -- a task that meets an earlier one is not clear
    pub meets_is_not_clear : (loc : ℕ) → MeetsEarlierAt app state task loc → is_clear app state task ≡ false
    meets_is_not_clear loc meets =
        ap (λ (b : Bool). not b && app.is_safe task (tasks_before task.key state.pending)) (meets_some state.cells task loc (tasks_before task.key state.pending) meets.own meets.others_too)

    -- one that meets none is
    pub apart_is_clear : AreApart app (any_has app state.cells (tasks_before task.key state.pending)) state.cells task → is_clear app state task ≡ true
    apart_is_clear apart =
        ap (λ (b : Bool). not b && app.is_safe task (tasks_before task.key state.pending))
        (apart_all state.cells task (tasks_before task.key state.pending) ready.cells fit (All-filter (IsFitTask app) _ state.pending ready.tasks) apart)
        ∙ safe
