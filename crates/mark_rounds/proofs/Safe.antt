-- When a task whose place is free may be tested for safety, and who writes where sets are fixed.
use Rattle.std.proofs.Common.{◌≡◌, ℕ, zero, suc, cond, List, [], ◌∷◌, map, take, Some, refl, sym, ap, subst, ◌∙◌}
use Rattle.std.specs.Prelude.{Contains, slice_get}
use Rattle.std.specs.List.{AllByRecursion}
use Rattle.task_order.specs.declared.task.Task.{Task}
use Rattle.task_order.specs.TaskList.{tasks_before}
use Rattle.task_order.specs.TaskListLaws.{tasks_before-place}
use Rattle.rw_sets.specs.Accesses.{Accesses, Conflicts, writes}
use Rattle.cell_store.specs.Values.{homes}
use Rattle.app_laws.specs.Applications.{Application, AreFitTasks, AreWriters, FixedSetsAreKnown, IsSource, set_in}
use Rattle.commuting.specs.Clear.{IsReady}
use Rattle.commuting.specs.States.{State}
use Rattle.mark_board.specs.declared.view.Mark.{Mark}
use Rattle.mark_board.specs.Markers.{IsFree}
use Rattle.mark_board.specs.Ranks.{marks_from}
use Rattle.mark_rounds.specs.Basis.{Basis}
use Rattle.mark_rounds.specs.Marked.{AreMarked}
use Rattle.mark_rounds.specs.Pending.{writers_among}
use Rattle.mark_rounds.proofs.Clear.{sets_ascend}

-- the pending tasks' own marks are theirs
pub marked_by_all : {V : Type 0} (app : Application V) (state : State V) (marks : List Mark) → marks ≡ marks_from 0 (map (set_in app state.cells) state.pending) → AreMarked app state marks
marked_by_all app state marks are mark = ((λ has. subst (λ (all : List Mark). Contains all mark) are has), (λ has. subst (λ (all : List Mark). Contains all mark) (sym are) has))

module _ {V : Type 0} (app : Application V) where
  -- what holds of the first sets' relation to a set holds of the tasks'
  apart_from : (cells : List V) (set : Accesses) (rank : ℕ) (tasks : List Task) → AllByRecursion (λ (earlier : Accesses). ¬ Conflicts earlier set) (take rank (map (set_in app cells) tasks))
      → AllByRecursion (λ (other : Task). ¬ Conflicts (set_in app cells other) set) (take rank tasks)
  apart_from cells set zero tasks all = tt
  apart_from cells set (suc rank) [] all = tt
  apart_from cells set (suc rank) (task ∷ tasks) all = (all.0, apart_from cells set rank tasks all.1)

  pub source_where_free : Basis app → (state : State V) (marks : List Mark) (rank : ℕ) (task : Task) → IsReady app state → marks ≡ marks_from 0 (map (set_in app state.cells) state.pending)
      → slice_get state.pending rank ≡ Some task → IsFree marks rank (set_in app state.cells task) → IsSource app task (tasks_before task.key state.pending)
  source_where_free basis state marks rank task ready are at free =
      let set = set_in app state.cells task in
      let law = basis.unbarred (map (set_in app state.cells) state.pending) marks rank set (sets_ascend app basis.lawful state.cells state.pending ready.cells ready.tasks) (marked_by_all app state marks are) in
      record {
        cells = state.cells;
        fit = ready.cells;
        apart = subst (AllByRecursion (λ (other : Task). ¬ Conflicts (set_in app state.cells other) set)) (sym (tasks_before-place state.pending rank task ready.ascending at))
            (apart_from state.cells set rank state.pending (law.0 free));
      }

  -- where sets are fixed, a task's set is the same in all cells
  same_set : FixedSetsAreKnown app → (task : Task) (cells others : List V) → app.is_fit_cells cells → app.is_fit_cells others → app.is_fit_task task.key.prio task.body → set_in app cells task ≡ set_in app others task
  same_set fixed task cells others fit fits fit_task =
      let one = fixed task (homes cells) cells fit fit_task in
      let other = fixed task (homes cells) others fits fit_task in
      cc

  pub writers_where_fixed : (cells : List V) (tasks : List Task) → app.is_fit_cells cells → AreFitTasks app tasks → FixedSetsAreKnown app
      → AreWriters app (writers_among tasks (map (set_in app cells) tasks)) tasks
  writers_where_fixed cells [] fit all fixed others loc fits = refl
  writers_where_fixed cells (task ∷ tasks) fit all fixed others loc fits =
      let same = same_set fixed task cells others fit fits all.0 in
      let rest = writers_where_fixed cells tasks fit all.1 fixed others loc fits in
      ap (λ (set : Accesses). cond (writes set loc) (task ∷ writers_among tasks (map (set_in app cells) tasks) loc) (writers_among tasks (map (set_in app cells) tasks) loc)) same
      ∙ ap (λ (more : List Task). cond (writes (set_in app others task) loc) (task ∷ more) more) rest
