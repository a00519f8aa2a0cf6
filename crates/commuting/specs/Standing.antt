-- When a state, with what was logged on the way to it, stands for what is left of an execution.
use Rattle.std.specs.Prelude.{◌≡◌, ℕ, ◌+◌, ◌<◌, ◌≤◌, true, false, List, [], length, None, IfSome, IsSomeAnd}
use Rattle.std.specs.List.{AllByRecursion}
use Rattle.std.specs.declared.cmp.Ordering.TheVariants.{Less}
use Rattle.task_order.specs.declared.start.Start.{Start}
use Rattle.task_order.specs.declared.task.Task.{Task}
use Rattle.task_order.specs.Key.{Bound, end, key_cmp}
use Rattle.task_order.specs.TaskList.{put_all}
use Rattle.output_log.specs.Entries.{Entry, IsInKeyOrder, ShareNoKey, entries_before, with_entry}
use Rattle.app_laws.specs.Applications.{Application, AreFitStarts}
use Rattle.app_laws.specs.Execution.{Operator, Execution, after_steps, first_from, is_clear_before}
use Rattle.app_laws.specs.Order.{is_prefix}
use Rattle.commuting.specs.Clear.{IsClear, IsReady}
use Rattle.commuting.specs.Commuting.{BothEnd, LogsMore}
use Rattle.commuting.specs.States.{State, state_of, execution_from, run_from, after_task}

-- the entries are what the first log has more; and at the end, the cells are the same
pub record IsRestOf {V : Type 0} (bound : Bound) (entries : List Entry) (e rest : Execution V) : Type 0 where
  pub log-is : LogsMore entries e rest
  pub cells-are : bound ≡ end → e.cells ≡ rest.cells

-- The runs from the state are what is left of the runs from the start, after tasks that logged these entries: to any
-- bound, a run from the start takes a step more for each entry that is earlier than the bound.
abbrev pub HasSameRest : {V : Type 0} → Operator V → State V → List Entry → State V → Type 0
HasSameRest act start entries now = (bound : Bound) (limit : ℕ) →
    let done = entries_before bound entries in
    BothEnd (IsRestOf bound done)
    (run_from act (length done + limit) bound start)
    (run_from act limit bound now)

-- an end with this log and these cells
pub record IsEndWith {V : Type 0} (entries : List Entry) (cells : List V) (e : Execution V) : Type 0 where
  pub log-is : e.log ≡ entries
  pub cells-are : e.cells ≡ cells

-- the path of no entry goes on from that of a task
abbrev pub AreUnlogged : List Entry → List Task → Type 0
AreUnlogged entries tasks = AllByRecursion (λ task. AllByRecursion (λ entry. is_prefix task.key.path entry.0.path ≡ false) entries) tasks

-- each entry is earlier than each task
abbrev pub ComeBefore : List Entry → List Task → Type 0
ComeBefore entries tasks = AllByRecursion (λ task. AllByRecursion (λ entry. key_cmp entry.0 task.key ≡ Less) entries) tasks

-- a log in key order, of which all is later than the entries
pub record IsLaterLog (entries log : List Entry) : Type 0 where
  pub ordered : IsInKeyOrder log
  pub later : AllByRecursion (λ other. AllByRecursion (λ entry. key_cmp entry.0 other.0 ≡ Less) entries) log

module _ {V : Type 0} (app : Application V) where
  -- the state, with the entries on the way to it, stands for what is left of the execution from the start
  pub record StandsFor (start : State V) (entries : List Entry) (now : State V) : Type 0 where
    pub ready : IsReady app now
    pub ordered : IsInKeyOrder entries
    pub unlogged : AreUnlogged entries now.pending
    pub same_rest : HasSameRest app.act start entries now

  -- the first tasks make a state that is ready
  abbrev pub StartsAreReady : Type 0
  StartsAreReady = (cells : List V) (first : List Start) → app.is_fit_cells cells → AreFitStarts app first → IsReady app (state_of cells (put_all (first_from 0 first) []))

  -- such a state stands for itself
  abbrev pub StartsStandForThemselves : Type 0
  StartsStandForThemselves = (start : State V) → IsReady app start → StandsFor start [] start

  -- and where a clear task acts, whichever it is, what it leaves still stands for the rest
  abbrev pub ClearTasksKeepStanding : Type 0
  ClearTasksKeepStanding = (start now : State V) (entries : List Entry) (task : Task) → StandsFor start entries now → IsClear app now task →
      StandsFor start (with_entry task.key (app.act task now.cells).text entries) (after_task app.act task now)

  -- the entries before a bound that no pending task is before are the log of the first steps
  abbrev pub EarlierEntriesAreFirst : Type 0
  EarlierEntriesAreFirst = (start now : State V) (entries : List Entry) (bound : Bound) → StandsFor start entries now →
      is_clear_before bound (execution_from now) ≡ true →
      let done = entries_before bound entries in
      (after_steps app.act (length done) (execution_from start)).log ≡ done

  -- where nothing is pending, the run from the start has come to its end
  abbrev pub NothingPendingIsTheEnd : Type 0
  NothingPendingIsTheEnd = (start now : State V) (entries : List Entry) → StandsFor start entries now → now.pending ≡ [] →
      (limit : ℕ) → length entries ≤ limit → IsSomeAnd (run_from app.act limit end start) (IsEndWith entries now.cells)

  -- where there are more tasks than the limit, the run from the start doesn't end within it
  abbrev pub TooManyTasksNeverEnd : Type 0
  TooManyTasksNeverEnd = (start now : State V) (entries : List Entry) → StandsFor start entries now →
      (limit : ℕ) → length entries ≤ limit → limit < length entries + length now.pending → run_from app.act limit end start ≡ None

  -- a run logs in key order, and later than all that its first pending tasks are later than
  abbrev pub RunsLogLater : Type 0
  RunsLogLater = (state : State V) (entries : List Entry) → IsReady app state → ComeBefore entries state.pending →
      (limit : ℕ) (bound : Bound) → IfSome (run_from app.act limit bound state) (λ e. IsLaterLog entries e.log)

  -- and no key of an entry whose path goes on from none of theirs
  abbrev pub RunsLogNewKeys : Type 0
  RunsLogNewKeys = (state : State V) (entries : List Entry) → IsReady app state → AreUnlogged entries state.pending →
      (limit : ℕ) (bound : Bound) → IfSome (run_from app.act limit bound state) (λ e. ShareNoKey entries e.log)
