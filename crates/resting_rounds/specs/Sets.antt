-- Where the declared set of a task and those of others meet.
use Rattle.std.specs.Prelude.{◌≡◌, ℕ, false, Bool, List, Option, Some, None, IsTrue}
use Rattle.task_order.specs.declared.task.Task.{Task}
use Rattle.rw_sets.specs.Accesses.{writes}
use Rattle.app_laws.specs.Applications.{Application, set_in}
pub use Rattle.resting_tasks.specs.Resting.{any_has, HasSets}

module _ {V : Type 0} (app : Application V) where
  -- these are just the locations of the declared set of the task
  abbrev pub HasSet : (ℕ → Bool) → List V → Task → Type 0
  HasSet has cells task = (loc : ℕ) → has loc ≡ writes (set_in app cells task) loc

  -- none of these locations is in the declared set of the task
  abbrev pub AreApart : (ℕ → Bool) → List V → Task → Type 0
  AreApart has cells task = (loc : ℕ) → IsTrue (writes (set_in app cells task) loc) → has loc ≡ false

  -- the declared set of the task and that of one of the others have the location
  pub record MeetAt (cells : List V) (others : List Task) (task : Task) (loc : ℕ) : Type 0 where
    pub own : IsTrue (writes (set_in app cells task) loc)
    pub others_too : IsTrue (any_has app cells others loc)

  -- a location where the task meets one of the others; or none, where it meets none of them
  abbrev pub IsMeeting : List V → List Task → Task → Option ℕ → Type 0
  IsMeeting cells others task None = AreApart (any_has app cells others) cells task
  IsMeeting cells others task (Some loc) = MeetAt cells others task loc
