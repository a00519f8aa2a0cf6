-- A task whose place is free, and that is safe, is clear.
use Rattle.std.proofs.Common.{◌≡◌, ℕ, zero, suc, Bool, true, false, not, ◌&&◌, ◌||◌, List, [], ◌∷◌, map, take, IsTrue, refl, sym, ap, ◌∙◌}
use Rattle.std.specs.Prelude.{◌↔◌}
use Rattle.std.specs.List.{AllByRecursion, list_any}
use Rattle.std.proofs.lemmas.Bool.{false≢true}
use Rattle.task_order.specs.declared.task.Task.{Task}
use Rattle.task_order.specs.TaskList.{tasks_before}
use Rattle.task_order.specs.TaskListLaws.{tasks_before-place}
use Rattle.rw_sets.specs.Accesses.{Accesses, conflicts_with, IsAscending as IsSet}
use Rattle.rw_sets.specs.Laws.{ConflictsAreDecided}
use Rattle.app_laws.specs.Applications.{Application, AreFitTasks, IsLawful, set_in}
use Rattle.mark_board.specs.Ranks.{FreeRanksAreUnbarred, IsUnbarred}
use Rattle.mark_rounds.specs.Marked.{FreeAndSafeIsClear}

-- ---- conflicts with some of the first ones

module _ (decided : ConflictsAreDecided) (set_of : Task → Accesses) (set : Accesses) where
  any_conflicts : List Task → Bool
  any_conflicts tasks = list_any (λ other. conflicts_with (set_of other) set) tasks

  none_from : (rank : ℕ) (tasks : List Task) → IsUnbarred (map set_of tasks) rank set → list_any (λ other. conflicts_with (set_of other) set) (take rank tasks) ≡ false
  none_from zero tasks none = refl
  none_from (suc rank) [] none = refl
  none_from (suc rank) (task ∷ tasks) none = by_test (conflicts_with (set_of task) set) refl (none_from rank tasks none.1)
    where
      by_test : (test : Bool) → conflicts_with (set_of task) set ≡ test → list_any (λ other. conflicts_with (set_of other) set) (take rank tasks) ≡ false
          → (test || list_any (λ other. conflicts_with (set_of other) set) (take rank tasks)) ≡ false
      by_test true is rest = absurd (none.0 ((decided (set_of task) set).0 is))
      by_test false is rest = rest

  from_none : (rank : ℕ) (tasks : List Task) → list_any (λ other. conflicts_with (set_of other) set) (take rank tasks) ≡ false → IsUnbarred (map set_of tasks) rank set
  from_none zero tasks none = tt
  from_none (suc rank) [] none = tt
  from_none (suc rank) (task ∷ tasks) none = by_test (conflicts_with (set_of task) set) refl none (from_none rank tasks)
    where
      by_test : (test : Bool) → conflicts_with (set_of task) set ≡ test → (test || list_any (λ other. conflicts_with (set_of other) set) (take rank tasks)) ≡ false
          → (list_any (λ other. conflicts_with (set_of other) set) (take rank tasks) ≡ false → IsUnbarred (map set_of tasks) rank set)
          → IsUnbarred (map set_of (task ∷ tasks)) (suc rank) set
      by_test true is none again = absurd (false≢true (sym none))
      by_test false is none again = ((λ conflict. false≢true (sym is ∙ (decided (set_of task) set).1 conflict)), again none)

  same_test : (rank : ℕ) (tasks : List Task) (free : Bool) → IsTrue free ↔ IsUnbarred (map set_of tasks) rank set
      → free ≡ not (list_any (λ other. conflicts_with (set_of other) set) (take rank tasks))
  same_test rank tasks free is = by_test free refl (list_any (λ other. conflicts_with (set_of other) set) (take rank tasks)) refl
    where
      by_test : (one : Bool) → free ≡ one → (test : Bool) → list_any (λ other. conflicts_with (set_of other) set) (take rank tasks) ≡ test → one ≡ not test
      by_test true same true any = absurd (false≢true (sym (none_from rank tasks (is.0 same)) ∙ any))
      by_test true same false any = refl
      by_test false same true any = refl
      by_test false same false any = absurd (false≢true (sym same ∙ is.1 (from_none rank tasks any)))

-- ---- the law

module _ {V : Type 0} (app : Application V) (lawful : IsLawful app) where
  pub sets_ascend : (cells : List V) (tasks : List Task) → app.is_fit_cells cells → AreFitTasks app tasks → AllByRecursion IsSet (map (set_in app cells) tasks)
  sets_ascend cells [] fit all = tt
  sets_ascend cells (task ∷ tasks) fit all = ((lawful.sets_are_in_range task cells fit all.0).ascending, sets_ascend cells tasks fit all.1)

  pub clear_where_free : ConflictsAreDecided → FreeRanksAreUnbarred → FreeAndSafeIsClear app
  clear_where_free decided unbarred state marks rank task free ready marked at is =
      let set = set_in app state.cells task in
      let sets = map (set_in app state.cells) state.pending in
      let law = unbarred sets marks rank set (sets_ascend state.cells state.pending ready.cells ready.tasks) marked in
      let same = same_test decided (set_in app state.cells) set rank state.pending free ((λ h. law.0 (is.0 h)), (λ h. is.1 (law.1 h))) in
      let earlier = tasks_before-place state.pending rank task ready.ascending at in
      ap (λ (b : Bool). b && app.is_safe task (tasks_before task.key state.pending)) same
      ∙ ap (λ (tasks : List Task). not (list_any (λ other. conflicts_with (set_in app state.cells other) set) tasks) && app.is_safe task (tasks_before task.key state.pending)) (sym earlier)
