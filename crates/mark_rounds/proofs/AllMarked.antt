-- What holds once every pending task has marked its set.
use Rattle.std.proofs.Common.{◌≡◌, ℕ, List, [], ◌∷◌, ◌++◌, map, sym, ap, subst, ◌∙◌}
use Rattle.std.specs.Borrow.{Bor}
use Rattle.std.specs.List.{AllByRecursion}
use Rattle.task_order.specs.declared.task.Task.{Task}
use Rattle.rw_sets.specs.Accesses.{Accesses, IsInRange}
use Rattle.app_laws.specs.Applications.{Application, AreFitTasks, IsLawful, set_in}
use Rattle.commuting.specs.Clear.{IsReady}
use Rattle.commuting.specs.States.{state_of}
use Rattle.mark_board.specs.declared.view.Mark.{Mark}
use Rattle.mark_board.specs.Markers.{BoardState, MarkerState}
use Rattle.mark_board.specs.Ranks.{marks_from}
use Rattle.mark_rounds.specs.Board.{IsAlone, IsFresh}
use Rattle.mark_rounds.specs.Pending.{HaveMarked, marked_state, sets_in, tasks_in}
use Rattle.mark_rounds.proofs.Places.{sets_are}

module _ {V : Type 0} (app : Application V) (lawful : IsLawful app) (cells : List V) where
  in_range : app.is_fit_cells cells → (tasks : List Task) → AreFitTasks app tasks → AllByRecursion (λ (set : Accesses). IsInRange set app.count) (map (set_in app cells) tasks)
  in_range fit [] all = tt
  in_range fit (task ∷ tasks) all = ((lawful.sets_are_in_range task cells fit all.0).below, in_range fit tasks all.1)

  module _ (pending : List Task) (lent : List (Bor Task)) (sets : List Accesses) (ready : IsReady app (state_of cells pending)) (tasks_are : tasks_in lent ≡ pending) (found : sets ≡ sets_in app cells lent)
      (board : BoardState) (marker : MarkerState) (fresh : IsFresh app.count board marker) where
    ready_lent : IsReady app (state_of cells (tasks_in lent))
    ready_lent = subst (λ (tasks : List Task). IsReady app (state_of cells tasks)) (sym tasks_are) ready

    sets_of : sets ≡ map (set_in app cells) (tasks_in lent)
    sets_of = found ∙ sets_are app cells lent

    pub all_in_range : AllByRecursion (λ (set : Accesses). IsInRange set board.cells) sets
    all_in_range =
        subst (λ (count : ℕ). AllByRecursion (λ (set : Accesses). IsInRange set count) sets) (sym fresh.alone.wide)
        (subst (AllByRecursion (λ (set : Accesses). IsInRange set app.count)) (sym sets_of) (in_range ready_lent.cells (tasks_in lent) ready_lent.tasks))

    pub all_marked : (after : MarkerState) → after ≡ record marker { marks = marker.marks ++ marks_from 0 sets } → HaveMarked app (marked_state lent sets cells) board after
    all_marked after is = record {
      ready = ready_lent;
      sets_are = sets_of;
      alone = subst (IsAlone app.count board) (sym is) (record { here = fresh.alone.here; first = fresh.alone.first; alone = fresh.alone.alone; wide = fresh.alone.wide });
      marks_are = ap (λ (m : MarkerState). m.marks) is ∙ ap (λ (marks : List Mark). marks ++ marks_from 0 sets) fresh.none;
    }
