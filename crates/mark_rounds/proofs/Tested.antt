-- What the test of one place tells.
use Rattle.std.proofs.Common.{◌≡◌, ℕ, zero, suc, Bool, ◌&&◌, List, [], ◌∷◌, map, Some, IsTrue, sym, ap, subst, ◌∙◌}
use Rattle.std.specs.Prelude.{◌↔◌, slice_get}
use Rattle.plain_laws.specs.Lists.{All-found}
use Rattle.task_order.specs.declared.task.Task.{Task}
use Rattle.task_order.specs.TaskList.{tasks_before}
use Rattle.rw_sets.specs.Accesses.{Accesses, IsInRange}
use Rattle.app_laws.specs.Applications.{Application, IsFitTask, IsSource, set_in}
use Rattle.commuting.specs.Rounds.{is_clear}
use Rattle.mark_board.specs.Markers.{BoardState, IsFree, MarkerState}
use Rattle.mark_board.specs.Ranks.{marks_from}
use Rattle.mark_rounds.specs.Basis.{Basis}
use Rattle.mark_rounds.specs.Pending.{HaveMarked, MarkedState, state_in}
use Rattle.mark_rounds.proofs.Safe.{marked_by_all, source_where_free}

set_at : (f : Task → Accesses) (tasks : List Task) (rank : ℕ) (task : Task) (set : Accesses) → slice_get tasks rank ≡ Some task → slice_get (map f tasks) rank ≡ Some set → set ≡ f task
set_at f [] rank task set at there = absurd cc
set_at f (first ∷ tasks) zero task set at there = let same : first ≡ task = cc in let made : f first ≡ set = cc in sym made ∙ ap f same
set_at f (first ∷ tasks) (suc rank) task set at there = set_at f tasks rank task set at there

module _ {V : Type 0} (app : Application V) (basis : Basis app) (pending : MarkedState V) (board : BoardState) (marker : MarkerState) (marked : HaveMarked app pending board marker) (rank : ℕ) (task : Task) (set : Accesses)
    (at : slice_get pending.tasks rank ≡ Some task) (there : slice_get pending.sets rank ≡ Some set) where
  set_is : set ≡ set_in app pending.cells task
  set_is = set_at (set_in app pending.cells) pending.tasks rank task set at (subst (λ (sets : List Accesses). slice_get sets rank ≡ Some set) marked.sets_are there)

  marks_are : marker.marks ≡ marks_from 0 (map (set_in app pending.cells) pending.tasks)
  marks_are = marked.marks_are ∙ ap (marks_from 0) marked.sets_are

  pub fit : IsFitTask app task
  fit = All-found (IsFitTask app) pending.tasks rank task marked.ready.tasks at

  pub in_range : IsInRange set board.cells
  in_range = subst (λ (n : ℕ). IsInRange set n) (sym marked.alone.wide) (subst (λ (s : Accesses). IsInRange s app.count) (sym set_is) (basis.lawful.sets_are_in_range task pending.cells marked.ready.cells fit).below)

  module _ (free : Bool) (is : IsTrue free ↔ IsFree marker.marks rank set) where
    pub tested : (free && app.is_safe task (tasks_before task.key pending.tasks)) ≡ is_clear app (state_in pending) task
    tested = basis.marked (state_in pending) marker.marks rank task free marked.ready (marked_by_all app (state_in pending) marker.marks marks_are) at (subst (λ (s : Accesses). IsTrue free ↔ IsFree marker.marks rank s) set_is is)

    pub source : IsTrue free → IsSource app task (tasks_before task.key pending.tasks)
    source passed = source_where_free app basis (state_in pending) marker.marks rank task marked.ready marks_are at (subst (IsFree marker.marks rank) set_is (is.0 passed))
