-- What a look finds.
use Rattle.std.specs.Prelude.{◌≡◌, ℕ, Bool, List}
use Rattle.std.specs.List.{AllByRecursion, filter}
use Rattle.task_order.specs.declared.task.Task.{Task}
use Rattle.app_laws.specs.Applications.{Application}
use Rattle.commuting.specs.Rounds.{is_clear}
use Rattle.commuting.specs.States.{State}
use Rattle.resting_rounds.specs.declared.looking.Found.{Found}
use Rattle.resting_rounds.specs.Sets.{HasSets}
use Rattle.resting_rounds.specs.Waiting.{Rests, blocked, tasks_of}

-- of these pending tasks of the state: those that are clear, in order, and the locations of their declared sets; and the others, in
-- order, each of which rests
pub record IsFound {V C : Type 0} (app : Application V) (covers : C → ℕ → Bool) (state : State V) (tasks : List Task) (found : Found C) : Type 0 where
  pub clear : found.clear.items ≡ filter (is_clear app state) tasks
  pub acting : HasSets app (covers found.acting) state.cells found.clear.items
  pub later : tasks_of found.later.items ≡ blocked app state tasks
  pub resting : AllByRecursion (Rests app state) found.later.items
