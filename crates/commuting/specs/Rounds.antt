-- Rounds: all clear tasks act, and then all that are clear then, until nothing is pending.
use Rattle.std.specs.Prelude.{◌≡◌, ◌≢◌, ℕ, zero, suc, ◌≤◌, ◌&&◌, not, Bool, List, [], length, IfSome, IsSome}
use Rattle.std.specs.List.{Contains, filter, list_any}
use Rattle.task_order.specs.declared.task.Task.{Task}
use Rattle.task_order.specs.Key.{end}
use Rattle.task_order.specs.TaskList.{IsAscending, tasks_before}
use Rattle.output_log.specs.Entries.{Entry, joined_by_key}
use Rattle.rw_sets.specs.Accesses.{conflicts_with}
use Rattle.app_laws.specs.Applications.{Application, set_in}
use Rattle.commuting.specs.Clear.{IsClear, IsReady}
use Rattle.commuting.specs.Commuting.{AreClear, entries_of}
use Rattle.commuting.specs.Standing.{StandsFor}
use Rattle.commuting.specs.States.{State, run_from, after_tasks}

module _ {V : Type 0} (app : Application V) where
  -- whether no earlier task conflicts with the task, and it is safe against them
  abbrev pub is_clear : State V → Task → Bool
  is_clear state task =
      let earlier = tasks_before task.key state.pending in
      not (list_any (λ other. conflicts_with (set_in app state.cells other) (set_in app state.cells task)) earlier) && app.is_safe task earlier

  -- the clear tasks, in key order
  abbrev pub clear_tasks : State V → List Task
  clear_tasks state = filter (is_clear state) state.pending

  -- all clear tasks have acted, in key order
  abbrev pub after_round : State V → State V
  after_round state = after_tasks app.act (clear_tasks state) state

  -- after this number of rounds, and not before, nothing is pending
  abbrev pub TakesRounds : ℕ → State V → Type 0
  TakesRounds zero state = state.pending ≡ []
  TakesRounds (suc rounds) state = (state.pending ≢ []) × TakesRounds rounds (after_round state)

  -- they are just the clear tasks, each once
  pub record AreTheClearOnes (state : State V) (tasks : List Task) : Type 0 where
    pub clear : AreClear app state tasks
    pub ascending : IsAscending tasks
    pub all : (task : Task) → IsClear app state task → Contains tasks task

  abbrev pub ClearTasksAreListed : Type 0
  ClearTasksAreListed = (state : State V) → IsReady app state → AreTheClearOnes state (clear_tasks state)

  abbrev pub RoundsKeepReady : Type 0
  RoundsKeepReady = (state : State V) → IsReady app state → IsReady app (after_round state)

  -- a round leaves a state that stands for the rest, with the entries of the round joined to those before
  abbrev pub RoundsKeepStanding : Type 0
  RoundsKeepStanding = (start now : State V) (entries : List Entry) → StandsFor app start entries now →
      StandsFor app start (joined_by_key entries (entries_of app.act now.cells (clear_tasks now))) (after_round now)

  -- an execution that ends takes no more rounds than tasks
  abbrev pub EndsTakeRounds : Type 0
  EndsTakeRounds = (state : State V) → IsReady app state → (limit : ℕ) →
      IfSome (run_from app.act limit end state) (λ e. (rounds : ℕ) × (rounds ≤ length e.log) × TakesRounds rounds state)

  -- and where rounds end, it ends
  abbrev pub RoundsEnd : Type 0
  RoundsEnd = (state : State V) → IsReady app state → (rounds : ℕ) → TakesRounds rounds state → (limit : ℕ) × IsSome (run_from app.act limit end state)

  -- the number of rounds is one
  abbrev pub RoundsAreOneNumber : Type 0
  RoundsAreOneNumber = (state : State V) (rounds others : ℕ) → TakesRounds rounds state → TakesRounds others state → rounds ≡ others
