-- Pending tasks that marked their sets.
use Rattle.std.specs.Prelude.{◌≡◌, ℕ, ◌↔◌, ◌&&◌, Bool, List, map, slice_get, Some, IsTrue}
use Rattle.task_order.specs.declared.task.Task.{Task}
use Rattle.task_order.specs.TaskList.{tasks_before}
use Rattle.app_laws.specs.Applications.{Application, set_in}
use Rattle.commuting.specs.Clear.{IsReady}
use Rattle.commuting.specs.Rounds.{is_clear}
use Rattle.commuting.specs.States.{State}
use Rattle.mark_board.specs.declared.view.Mark.{Mark}
use Rattle.mark_board.specs.Markers.{IsFree}
use Rattle.mark_board.specs.Ranks.{AreMarksOf}

module _ {V : Type 0} (app : Application V) where
  -- every pending task has marked its declared set with its place in the order, and nothing else is marked
  abbrev pub AreMarked : State V → List Mark → Type 0
  AreMarked state marks = AreMarksOf (map (set_in app state.cells) state.pending) marks

  -- then a task that is free, at its place, and safe is clear; and no other
  abbrev pub FreeAndSafeIsClear : Type 0
  FreeAndSafeIsClear = (state : State V) (marks : List Mark) (rank : ℕ) (task : Task) (free : Bool) → IsReady app state → AreMarked state marks →
      slice_get state.pending rank ≡ Some task → IsTrue free ↔ IsFree marks rank (set_in app state.cells task) →
      (free && app.is_safe task (tasks_before task.key state.pending)) ≡ is_clear app state task
