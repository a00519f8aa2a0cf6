-- What is left of an execution where its pending tasks are first tasks of another one.
use Rattle.std.specs.Prelude.{◌≡◌, ℕ, Bool, List, [], map}
use Rattle.task_order.specs.declared.start.Start.{Start}
use Rattle.task_order.specs.Key.{end}
use Rattle.task_order.specs.TaskList.{put_all}
use Rattle.app_laws.specs.Applications.{Application}
use Rattle.app_laws.specs.Execution.{Execution, first_from}
use Rattle.app_laws.specs.Names.{AreListed, IsNaming, renamed}
use Rattle.app_laws.specs.Renaming.{HaveNames}
use Rattle.commuting.specs.Clear.{IsReady}
use Rattle.commuting.specs.Commuting.{BothEnd}
use Rattle.commuting.specs.Rounds.{TakesRounds, after_round, clear_tasks}
use Rattle.commuting.specs.States.{State, run_from, state_of}

-- the state with names in place of paths
abbrev pub renamed_state : {V : Type 0} → (List ℕ → List ℕ) → State V → State V
renamed_state name state = state_of state.cells (map (renamed name) state.pending)

-- the same cells, and logs with the same texts
pub record HasSameTexts {V : Type 0} (e other : Execution V) : Type 0 where
  pub cells_are : e.cells ≡ other.cells
  pub texts_are : map (λ entry. entry.1) e.log ≡ map (λ entry. entry.1) other.log

module _ {V : Type 0} (app : Application V) where
  -- under names the same tasks are clear, and the round leads to the same state, whose tasks have names too
  pub record IsSameRound (name : List ℕ → List ℕ) (has_name : List ℕ → Bool) (state : State V) : Type 0 where
    pub clear : clear_tasks app (renamed_state name state) ≡ map (renamed name) (clear_tasks app state)
    pub after : after_round app (renamed_state name state) ≡ renamed_state name (after_round app state)
    pub have_names : HaveNames has_name (after_round app state).pending

  abbrev pub NamesChangeNoRound : Type 0
  NamesChangeNoRound = (name : List ℕ → List ℕ) (has_name : List ℕ → Bool) → IsNaming name has_name →
      (state : State V) → IsReady app state → HaveNames has_name state.pending → IsSameRound name has_name state

  -- under names it takes as many rounds
  abbrev pub NamesChangeNoRounds : Type 0
  NamesChangeNoRounds = (name : List ℕ → List ℕ) (has_name : List ℕ → Bool) → IsNaming name has_name →
      (state : State V) → IsReady app state → HaveNames has_name state.pending →
      (rounds : ℕ) → TakesRounds app rounds (renamed_state name state) → TakesRounds app rounds state

  -- the runs from both states come to the same, in as many rounds
  pub record ComesToSame (state other : State V) : Type 0 where
    pub ends : (limit : ℕ) → BothEnd HasSameTexts (run_from app.act limit end state) (run_from app.act limit end other)
    pub rounds : (rounds : ℕ) → TakesRounds app rounds other → TakesRounds app rounds state

  -- so it is where the pending tasks, in the order of their paths, are first tasks
  abbrev pub ListedTasksComeToSame : Type 0
  ListedTasksComeToSame = (state : State V) → IsReady app state → (first : List Start) → AreListed state.pending first →
      ComesToSame state (state_of state.cells (put_all (first_from 0 first) []))
