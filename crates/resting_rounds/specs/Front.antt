-- What a look has gathered of the earliest pending tasks.
use Rattle.std.specs.Prelude.{◌≤◌, ℕ, Bool, List, take, IsTrue}
use Rattle.task_order.specs.declared.task.Task.{Task}
use Rattle.app_laws.specs.Applications.{Application}
use Rattle.resting_rounds.specs.declared.front.Front.{Front}
use Rattle.resting_rounds.specs.declared.front.Reach.{Reach}
use Rattle.resting_rounds.specs.Sets.{HasSets, any_has}

module _ {V C : Type 0} (app : Application V) (covers : C → ℕ → Bool) where
  -- of the first `reach.count` tasks, none of them behind the place, the declared sets, and nothing else
  pub record HasFirstSets (cells : List V) (tasks : List Task) (place : ℕ) (reach : Reach C) : Type 0 where
    pub behind : reach.count ≤ place
    pub sets : HasSets app (covers reach.cover) cells (take reach.count tasks)

  -- of the first `reach.count` tasks, none of them behind the place, nothing but what their declared sets always have
  pub record HasCores (tasks : List Task) (place : ℕ) (reach : Reach C) : Type 0 where
    pub behind : reach.count ≤ place
    pub within : (cells : List V) (loc : ℕ) → app.is_fit_cells cells → IsTrue (covers reach.cover loc) → IsTrue (any_has app cells (take reach.count tasks) loc)

  -- both
  pub record IsFront (cells : List V) (tasks : List Task) (place : ℕ) (front : Front C) : Type 0 where
    pub sets : HasFirstSets cells tasks place front.sets
    pub cores : HasCores tasks place front.cores
