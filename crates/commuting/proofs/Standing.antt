-- States that stand for what is left of an execution.
use Rattle.std.proofs.Common.{◌≡◌, ℕ, suc, ◌+◌, ◌-◌, ◌<◌, false, List, [], ◌∷◌, length, Option, Some, None, refl, sym, ap, subst, ◌∙◌, arith}
use Rattle.std.specs.Prelude.{IfSome, IsSomeAnd}
use Rattle.std.specs.List.{AllByRecursion, Contains}
use Rattle.std.specs.List.Sorted.{IsStrictlySortedBy}
use Rattle.std.specs.Option.{option_map}
use Rattle.std.proofs.lemmas.List.Elements.{All-from_recursion, All-contains}
use Rattle.plain_laws.specs.Lists.{All-joined, All-append, All-filter}
use Rattle.task_order.specs.declared.key.Key.{Key}
use Rattle.task_order.specs.declared.start.Start.{Start}
use Rattle.task_order.specs.declared.task.Task.{Task}
use Rattle.task_order.specs.Key.{Bound, at_key, end, is_before}
use Rattle.task_order.specs.TaskList.{without}
use Rattle.task_order.specs.TaskListLaws.{All-put_all}
use Rattle.output_log.specs.Entries.{Entry, IsInKeyOrder, entries_before, entries_from, with_entry}
use Rattle.app_laws.specs.Applications.{Application, IsFitTask, AreFitTasks, AreFitStarts}
use Rattle.app_laws.specs.Execution.{Execution, after_steps, is_clear_before, steps_until, created_after, first_from}
use Rattle.app_laws.specs.Order.{is_prefix}
use Rattle.app_laws.specs.ApartLaws.{TasksApart}
use Rattle.app_laws.specs.StepLaws.{after_none}
use Rattle.commuting.specs.Clear.{IsReady}
use Rattle.commuting.specs.Commuting.{BothEnd}
use Rattle.commuting.specs.Basis.{Basis}
use Rattle.commuting.specs.Standing.{AreUnlogged, IsRestOf, HasSameRest, IsEndWith, StartsAreReady, StartsStandForThemselves, ClearTasksKeepStanding, EarlierEntriesAreFirst, NothingPendingIsTheEnd, TooManyTasksNeverEnd}
use Rattle.commuting.specs.States.{State, state_of, execution_from, run_from, after_task}
use Rattle.commuting.proofs.Clearing.{beside_lacking}
use Rattle.commuting.proofs.Logs.{unlogged_handed}
use Rattle.commuting.proofs.Pending.{spread-put_all}
use Rattle.commuting.proofs.Pairs.{stays_ready}
use Rattle.commuting.proofs.Turns.{children_of}
use Rattle.commuting.proofs.Runs.{run_clear}
use Rattle.commuting.proofs.Rest.{start_has_same_rest, kept_by}
use Rattle.commuting.specs.EndLaws.{new_where_unlogged}

given_up_both : {V : Type 0} (R : Execution V → Execution V → Type 0) (run : Option (Execution V)) → BothEnd R run None → run ≡ None
given_up_both R None both = refl
given_up_both R (Some e) both = absurd both

ended_both : {V : Type 0} (R : Execution V → Execution V → Type 0) (P : Execution V → Type 0) (last : Execution V) → ((e : Execution V) → R e last → P e)
    → (run : Option (Execution V)) → BothEnd R run (Some last) → IsSomeAnd run P
ended_both R P last each None both = absurd both
ended_both R P last each (Some e) both = each e both

module _ {V : Type 0} {app : Application V} (basis : Basis app) where
  -- ---- paths

  -- what holds of one more entry and of the others holds of all
  all-with_entry : (P : Entry → Type 0) (key : Key) (text : List ℕ) (entries : List Entry) → P (key, text) → AllByRecursion P entries → AllByRecursion P (with_entry key text entries)
  all-with_entry P key text entries one all = All-append P (entries_before (at_key key) entries) ((key, text) ∷ entries_from (at_key key) entries) (All-filter P _ entries all) (one, All-filter P _ entries all)

  -- where a task has acted, its path is logged
  still_unlogged : (now : State V) (task : Task) (entries : List Entry) → IsReady app now → Contains now.pending task → AreUnlogged entries now.pending
      → AreUnlogged (with_entry task.key (app.act task now.cells).text entries) (after_task app.act task now).pending
  still_unlogged now task entries ready pending unlogged =
      let text = (app.act task now.cells).text in
      let Before = λ (other : Task). AllByRecursion (λ (entry : Entry). is_prefix other.key.path entry.0.path ≡ false) entries in
      let After = λ (other : Task). AllByRecursion (λ (entry : Entry). is_prefix other.key.path entry.0.path ≡ false) (with_entry task.key text entries) in
      let more = λ (other : Task). all-with_entry (λ entry. is_prefix other.key.path entry.0.path ≡ false) task.key text entries in
      let here = All-contains Before now.pending task (All-from_recursion Before now.pending unlogged) pending in
      let beside = beside_lacking basis now task ready pending in
      All-put_all After (children_of app now.cells task) (without task.key now.pending)
      (All-joined (λ child. is_prefix child.key.path task.key.path ≡ false) Before After more (children_of app now.cells task)
      (basis.lower.children_go_on task.key (app.act task now.cells).children)
      (unlogged_handed basis entries task now.cells beside.ready.cells beside.fit here))
      (All-joined (TasksApart task) Before After (λ other apart. more other apart.not_after) (without task.key now.pending)
      beside.apart
      (All-filter Before _ now.pending unlogged))

  -- ---- standing

  pub starts_are_ready : StartsAreReady app
  starts_are_ready cells first fit_cells fit =
      let tasks = first_from 0 first in
      let spread = spread-put_all basis.lower tasks [] (record { spread = record { ascending = tt; apart = tt }; siblings = basis.lower.first_apart first; apart = all_apart_from_none tasks }) in
      record {
        cells = fit_cells;
        tasks = All-put_all (IsFitTask app) tasks [] (first_fit 0 first fit) tt;
        ascending = spread.ascending;
        apart = spread.apart;
      }
    where
      all_apart_from_none : (tasks : List Task) → AllByRecursion (λ task. AllByRecursion (TasksApart task) []) tasks
      all_apart_from_none [] = tt
      all_apart_from_none (task ∷ tasks) = (tt, all_apart_from_none tasks)

      first_fit : (number : ℕ) (first : List Start) → AreFitStarts app first → AreFitTasks app (first_from number first)
      first_fit number [] fit = tt
      first_fit number (start ∷ first) fit = (fit.0, first_fit (suc number) first fit.1)

  no_entries_in_order : IsInKeyOrder []
  unfolding IsStrictlySortedBy
  no_entries_in_order = tt

  pub starts_stand_for_themselves : StartsStandForThemselves app
  starts_stand_for_themselves start ready = record {
    ready = ready;
    ordered = no_entries_in_order;
    unlogged = all_unlogged start.pending;
    same_rest = start_has_same_rest basis start;
  }
    where
      all_unlogged : (tasks : List Task) → AreUnlogged [] tasks
      all_unlogged [] = tt
      all_unlogged (task ∷ tasks) = (tt, all_unlogged tasks)

  pub clear_tasks_keep_standing : ClearTasksKeepStanding app
  clear_tasks_keep_standing start now entries task stands clear =
      let Before = λ (other : Task). AllByRecursion (λ (entry : Entry). is_prefix other.key.path entry.0.path ≡ false) entries in
      let here = All-contains Before now.pending task (All-from_recursion Before now.pending stands.unlogged) clear.pending in
      let new = new_where_unlogged task.key entries here in
      record {
        ready = stays_ready basis now task stands.ready clear.pending;
        ordered = basis.lower.entries_in_order task.key (app.act task now.cells).text entries new stands.ordered;
        unlogged = still_unlogged now task entries stands.ready clear.pending stands.unlogged;
        same_rest = λ bound limit. kept_by basis start now entries task stands.ordered new stands.ready clear stands.same_rest bound limit (is_before task.key bound) refl;
      }

  -- a run that has come to its end has taken a step for each entry
  first_answered : (start now : State V) (done : List Entry) (bound : Bound) → IsInKeyOrder done → (answer : Option ℕ)
      → IfSome answer (λ steps. length (after_steps app.act steps (execution_from start)).log ≡ 0 + steps)
      → BothEnd (IsRestOf bound done) (option_map (λ steps. after_steps app.act steps (execution_from start)) answer) (Some (execution_from now))
      → (after_steps app.act (length done) (execution_from start)).log ≡ done
  first_answered start now done bound ordered None logs both = absurd both
  first_answered start now done bound ordered (Some steps) logs both =
      let is = both.log-is ∙ (basis.lower.joins_with_none done ordered).1 in
      let count : length done ≡ steps = omega (arith, ap length is, logs) in
      ap (λ n. (after_steps app.act n (execution_from start)).log) count ∙ is

  pub earlier_entries_are_first : EarlierEntriesAreFirst app
  earlier_entries_are_first start now entries bound stands clear =
      let done = entries_before bound entries in
      first_answered start now done bound (basis.lower.parts_in_order bound entries stands.ordered).0
      (steps_until app.act (length done + 0) bound (execution_from start))
      (basis.runs.logs (execution_from start) (length done + 0) bound)
      (subst (λ run. BothEnd (IsRestOf bound done) (run_from app.act (length done + 0) bound start) run) (run_clear basis.runs 0 bound (execution_from now) clear) (stands.same_rest bound 0))

  -- to the end, the entries are all of them
  to_end : (start now : State V) (entries : List Entry) → HasSameRest app.act start entries now → (limit rest : ℕ) → limit ≡ length entries + rest
      → BothEnd (IsRestOf end entries) (run_from app.act limit end start) (run_from app.act rest end now)
  to_end start now entries same limit rest is =
      subst (λ n. BothEnd (IsRestOf end entries) (run_from app.act n end start) (run_from app.act rest end now)) (sym is)
      (subst (λ done. BothEnd (IsRestOf end done) (run_from app.act (length done + rest) end start) (run_from app.act rest end now)) (basis.lower.before_end entries) (same end rest))

  pub nothing_pending_is_the_end : NothingPendingIsTheEnd app
  nothing_pending_is_the_end start now entries stands none limit up_to =
      let rest = limit - length entries in
      let ended = run_clear basis.runs rest end (execution_from now) (ap (λ pending. is_clear_before end (execution_from (state_of now.cells pending))) none) in
      ended_both (IsRestOf end entries) (IsEndWith entries now.cells) (execution_from now)
      (λ e is. record { log-is = is.log-is ∙ (basis.lower.joins_with_none entries stands.ordered).1; cells-are = is.cells-are refl })
      (run_from app.act limit end start)
      (subst (λ run. BothEnd (IsRestOf end entries) (run_from app.act limit end start) run) ended (to_end start now entries stands.same_rest limit rest (omega arith)))

  pub too_many_tasks_never_end : TooManyTasksNeverEnd app
  too_many_tasks_never_end start now entries stands limit up_to many =
      let rest = limit - length entries in
      let created : 0 + rest < created_after app.act 0 (execution_from now) = rw after_none (omega arith) in
      let never = (basis.runs.ends (execution_from now) rest).1 (0, created) in
      given_up_both (IsRestOf end entries) (run_from app.act limit end start)
      (subst (λ run. BothEnd (IsRestOf end entries) (run_from app.act limit end start) run) never (to_end start now entries stands.same_rest limit rest (omega arith)))
