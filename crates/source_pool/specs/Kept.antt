-- What is kept of a run in rounds while it goes on: the texts of the ended tasks that come before every pending one.
use Rattle.std.specs.Prelude.{◌≡◌, ◌≢◌, ◌<◌, ◌≤◌, ℕ, zero, suc, ◌+◌, ◌-◌, List, [], ◌∷◌, ◌++◌, length}
use Rattle.task_order.specs.declared.task.Task.{Task}
use Rattle.task_order.specs.Key.{Bound, at_key, end}
use Rattle.output_log.specs.Entries.{Entry, entries_before, joined_by_key, joined_texts}
use Rattle.app_laws.specs.Applications.{Application}
use Rattle.app_laws.specs.Execution.{after_steps}
use Rattle.commuting.specs.Commuting.{entries_of}
use Rattle.commuting.specs.Rounds.{after_round, clear_tasks}
use Rattle.commuting.specs.States.{State, execution_from}
use Rattle.crew.specs.declared.answers.OverCause.{OverCause}
use Rattle.crew.specs.declared.answers.OverCause.TheVariants as cause
use Rattle.run_laws.specs.Progress.{Progress}
use Rattle.source_pool.specs.Course.{LeadsByRounds}
use Rattle.source_pool.specs.Runs.{state_at_rest}

-- up to the first of the pending tasks, or to the end where none is pending
abbrev pub first_pending : List Task → Bound
first_pending [] = end
first_pending (task ∷ tasks) = at_key task.key

module _ {V : Type 0} (app : Application V) where
  -- how many tasks act in this number of rounds
  abbrev pub acted_in : ℕ → State V → ℕ
  acted_in zero state = 0
  acted_in (suc rounds) state = length (clear_tasks app state) + acted_in rounds (after_round app state)

  -- the entries, joined with those of the tasks that act in this number of rounds
  abbrev pub entries_after : ℕ → List Entry → State V → List Entry
  entries_after zero entries state = entries
  entries_after (suc rounds) entries state =
      entries_after rounds (joined_by_key entries (entries_of app.act state.cells (clear_tasks app state))) (after_round app state)

  -- Rounds from the first state lead to this one, within the greatest number of tasks that may be pending at first or created then.
  -- The text has those of the log and of the tasks of these rounds, where they are earlier than each task that is pending now, in the
  -- order of their keys.
  pub record IsKeptAfter (most : ℕ) (log : List Entry) (first : State V) (rounds : ℕ) (state : State V) (text : List ℕ) : Type 0 where
    pub leads : LeadsByRounds app rounds first state
    pub within : acted_in rounds first + length state.pending ≤ most
    pub text_is : text ≡ joined_texts (entries_before (first_pending state.pending) (joined_by_key log (entries_after rounds [] first)))

  -- some task is pending then, and one round more would create more tasks than that
  pub record IsLastRound (most : ℕ) (first : State V) (rounds : ℕ) (state : State V) : Type 0 where
    pub some : state.pending ≢ []
    pub above : most < acted_in rounds first + (length (clear_tasks app state) + length (after_round app state).pending)

  -- what is kept of a run from an execution in which nothing is running, within what is left of the limit
  abbrev pub KeepsAfter : Progress V → ℕ → State V → List ℕ → Type 0
  KeepsAfter start = IsKeptAfter (start.limit - start.ended) start.log (state_at_rest start)

  -- and which of its rounds is the last within the limit
  abbrev pub IsLastAfter : Progress V → ℕ → State V → Type 0
  IsLastAfter start = IsLastRound (start.limit - start.ended) (state_at_rest start)

  -- the texts of the log and of the tasks that act next one after the other, as many as what is left of the limit, in the order of their keys
  abbrev pub sequential_text : Progress V → List ℕ
  sequential_text start = joined_texts (joined_by_key start.log (after_steps app.act (start.limit - start.ended) (execution_from (state_at_rest start))).log)

  -- the entries of the log and of the tasks that act next one after the other, as many as what is left of the limit, in the order of their keys
  abbrev pub sequential_entries : Progress V → List Entry
  sequential_entries start = joined_by_key start.log (after_steps app.act (start.limit - start.ended) (execution_from (state_at_rest start))).log

  -- What is kept after `more` rounds from an execution is kept from an earlier start too, behind `text` and after `rounds` rounds before.
  -- Where that round is the last one within the limit, it is so from the start.
  pub record KeepsBehind (start : Progress V) (text : List ℕ) (rounds : ℕ) (now : Progress V) (more : ℕ) (state : State V) (kept : List ℕ) : Type 0 where
    pub there : State V
    pub keeps : KeepsAfter start (rounds + more) there (text ++ kept)
    pub last : IsLastAfter now more state → IsLastAfter start (rounds + more) there

-- where the limit was passed, as many tasks as have ended then, and those of this state, are more than the limit
abbrev pub PassesWith : {V : Type 0} → ℕ → ℕ → State V → OverCause → Type 0
PassesWith most ended state (cause.Budget created limit) = most < ended + length state.pending
PassesWith most ended state cause.NoRoom = Unit {0}
