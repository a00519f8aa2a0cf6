-- What is asked of an application's operator, and what holds of each execution.
use Rattle.std.specs.Prelude.{ℕ, suc, ◌≡◌, ◌+◌, ◌<◌, ◌≤◌, ◌^◌, ◌↔◌, List, ◌++◌, length, true, false, Some, None, IfSome, MatchOption}
use Rattle.std.specs.List.{AllByRecursion}
use Rattle.task_order.specs.declared.start.Start.{Start}
use Rattle.task_order.specs.declared.task.Body.{Body}
use Rattle.task_order.specs.Key.{Bound}
use Rattle.output_log.specs.Entries.{Entry, is_entry_before, entries_before}
use Rattle.app_laws.specs.Applications.{Application}
use Rattle.app_laws.specs.Execution.{Operator, Outcome, Execution, step, after_steps, is_clear_before, steps_until, run_until, run_to_end, created_after}

-- each start is a task of the application
abbrev pub AllFit : (ℕ → Body → Type 0) → List Start → Type 0
AllFit is_fit_task starts = AllByRecursion (λ start. is_fit_task start.prio start.body) starts

-- no start is earlier than the priority
abbrev pub NoneEarlier : ℕ → List Start → Type 0
NoneEarlier prio starts = AllByRecursion (λ start. prio ≤ start.prio) starts

-- what a fit task does to fit cells is fit
pub record IsFitOutcome {V : Type 0} (is_fit_cells : List V → Type 0) (is_fit_task : ℕ → Body → Type 0) (outcome : Outcome V) : Type 0 where
  pub cells : is_fit_cells outcome.cells
  pub children : AllFit is_fit_task outcome.children
  pub few : length outcome.children < 2 ^ 32

-- the cells and the pending tasks are the application's
pub record IsFit {V : Type 0} (is_fit_cells : List V → Type 0) (is_fit_task : ℕ → Body → Type 0) (e : Execution V) : Type 0 where
  pub cells : is_fit_cells e.cells
  pub pending : AllByRecursion (λ task. is_fit_task task.key.prio task.body) e.pending

-- the cells and the pending tasks are those of this application
abbrev pub IsFitExecution : {V : Type 0} → Application V → Execution V → Type 0
IsFitExecution app e = IsFit app.is_fit_cells app.is_fit_task e

-- after these steps, and not before, no pending task is earlier than the bound
pub record IsFirstClear {V : Type 0} (act : Operator V) (bound : Bound) (e : Execution V) (steps : ℕ) : Type 0 where
  pub clear : is_clear_before bound (after_steps act steps e) ≡ true
  pub first : (fewer : ℕ) → fewer < steps → is_clear_before bound (after_steps act fewer e) ≡ false

-- a run stops as soon as no pending task is earlier than the bound, and gives up only where that takes more steps than the limit
abbrev pub StopsWhenClear : {V : Type 0} → Operator V → Execution V → Type 0
StopsWhenClear act e = (limit : ℕ) (bound : Bound) →
    MatchOption (steps_until act limit bound e)
    ((steps : ℕ) → steps ≤ limit → is_clear_before bound (after_steps act steps e) ≡ false)
    (λ steps. (steps ≤ limit) × IsFirstClear act bound e steps)

-- each step of a run logs one task
abbrev pub LogsEachStep : {V : Type 0} → Operator V → Execution V → Type 0
LogsEachStep act e = (limit : ℕ) (bound : Bound) →
    IfSome (steps_until act limit bound e) (λ steps. length (after_steps act steps e).log ≡ length e.log + steps)

-- created tasks are never lost
abbrev pub CreatedNeverFalls : {V : Type 0} → Operator V → Execution V → Type 0
CreatedNeverFalls act e = (steps more : ℕ) → created_after act steps e ≤ created_after act (steps + more) e

-- a run does not end within the limit exactly where some number of steps creates more tasks than that, beside those that had acted before
abbrev pub EndsWithinLimit : {V : Type 0} → Operator V → Execution V → Type 0
EndsWithinLimit act e = (limit : ℕ) →
    (run_to_end act limit e ≡ None) ↔ ((steps : ℕ) × (length e.log + limit < created_after act steps e))

-- what comes after some steps goes on as the whole does
abbrev pub StepsAdd : {V : Type 0} → Operator V → Execution V → Type 0
StepsAdd act e = (steps more : ℕ) → after_steps act (steps + more) e ≡ after_steps act more (after_steps act steps e)

-- a run to a bound has come there, or begins with one step, which needs one of its limit
abbrev pub RunsBeginWithAStep : {V : Type 0} → Operator V → Execution V → Type 0
RunsBeginWithAStep act e = (bound : Bound) →
    (is_clear_before bound e ≡ true → (limit : ℕ) → run_until act limit bound e ≡ Some e)
    × (is_clear_before bound e ≡ false → (run_until act 0 bound e ≡ None) × ((limit : ℕ) → run_until act (suc limit) bound e ≡ run_until act limit bound (step act e)))

-- where a limit is enough, a greater one gives the same answer
abbrev pub GreaterLimitsAgree : {V : Type 0} → Operator V → Execution V → Type 0
GreaterLimitsAgree {V} act e = (limit more : ℕ) (bound : Bound) (last : Execution V) → run_until act limit bound e ≡ Some last → run_until act (limit + more) bound e ≡ Some last

-- what was logged stays in front
abbrev pub LogsGrowAtTheEnd : {V : Type 0} → Operator V → Execution V → Type 0
LogsGrowAtTheEnd act e = (steps more : ℕ) → (rest : List Entry) × ((after_steps act (steps + more) e).log ≡ (after_steps act steps e).log ++ rest)

-- where all that was logged is before a bound, the run to that bound logs the part of the whole log that is before it
abbrev pub BoundedRunsLogAPart : {V : Type 0} → Operator V → Execution V → Type 0
BoundedRunsLogAPart {V} act e = (bound : Bound) (limit total : ℕ) (part whole : Execution V) → AllByRecursion (λ entry. is_entry_before bound entry ≡ true) e.log →
    run_until act limit bound e ≡ Some part → run_to_end act total e ≡ Some whole → part.log ≡ entries_before bound whole.log
