-- Applications whose tasks can rest.
use Rattle.std.specs.Prelude.{◌≡◌, ℕ, Bool, true, false, List, [], IsSome, IsTrue}
use Rattle.std.specs.List.{list_any}
use Rattle.task_order.specs.declared.task.Task.{Task}
use Rattle.rw_sets.specs.Accesses.{access_at, writes}
use Rattle.app_laws.specs.Applications.{Application, IsFitTask, AreFitTasks, set_in}

module _ {V : Type 0} (app : Application V) where
  -- whether the declared set of one of the tasks has the location
  abbrev pub any_has : List V → List Task → ℕ → Bool
  any_has cells tasks loc = list_any (λ task. writes (set_in app cells task) loc) tasks

  -- these are just the locations of the declared sets of the tasks
  abbrev pub HasSets : (ℕ → Bool) → List V → List Task → Type 0
  HasSets has cells tasks = (loc : ℕ) → has loc ≡ any_has cells tasks loc

  -- a declared set writes each location that it names
  abbrev pub SetsAreWritten : Type 0
  SetsAreWritten = (task : Task) (cells : List V) (loc : ℕ) → app.is_fit_cells cells → IsFitTask app task →
      IsSome (access_at (set_in app cells task) loc) → IsTrue (writes (set_in app cells task) loc)

  -- no task makes others
  abbrev pub NoneHasChildren : Type 0
  NoneHasChildren = (task : Task) (cells : List V) → app.is_fit_cells cells → IsFitTask app task → (app.act task cells).children ≡ []

  -- whatever is pending, each task is safe
  abbrev pub EachIsSafe : Type 0
  EachIsSafe = (task : Task) (earlier : List Task) → IsFitTask app task → AreFitTasks app earlier → app.is_safe task earlier ≡ true

  -- where a task acts, any task has as much as before of each location outside the acting task's set
  abbrev pub RestIsKept : Type 0
  RestIsKept = (task other : Task) (cells : List V) (loc : ℕ) → app.is_fit_cells cells → IsFitTask app task → IsFitTask app other →
      writes (set_in app cells task) loc ≡ false → writes (set_in app (app.act task cells).cells other) loc ≡ writes (set_in app cells other) loc

  -- these, as one
  pub record IsResting : Type 0 where
    pub written : SetsAreWritten
    pub childless : NoneHasChildren
    pub safe : EachIsSafe
    pub rest_is_kept : RestIsKept
