-- Rounds of clear tasks.
use Rattle.std.proofs.Common.{◌≡◌, ◌≢◌, ℕ, zero, suc, ◌+◌, ◌≤◌, ◌<◌, Bool, true, false, not, cond, List, [], ◌∷◌, length, Option, Some, None, refl, sym, ap, subst, ◌∙◌, arith, append-nil}
use Rattle.std.specs.Prelude.{IfSome, IsSome, ◌||◌, is_some}
use Rattle.std.specs.List.{AllByRecursion, Contains, filter, list_any}
use Rattle.std.proofs.lemmas.Bool.{true≢false, and_parts, and_from, not-true}
use Rattle.std.proofs.lemmas.List.Elements.{All-from_recursion, recursion_from_All, All-contains_itself, filter_passes}
use Rattle.plain_laws.specs.Lists.{All-weaker, All-filter, none_from_all}
use Rattle.plain_laws.specs.Members.{in_filter}
use Rattle.task_order.specs.declared.task.Task.{Task}
use Rattle.task_order.specs.declared.key.Key.{Key}
use Rattle.task_order.specs.Key.{end}
use Rattle.task_order.specs.TaskList.{tasks_before}
use Rattle.task_order.specs.TaskListLaws.{IsAscending-filter}
use Rattle.output_log.specs.Entries.{Entry, IsNewEntry, joined_by_key}
use Rattle.rw_sets.specs.Accesses.{Conflicts, conflicts_with}
use Rattle.app_laws.specs.Applications.{Application, set_in}
use Rattle.app_laws.specs.Execution.{Execution, is_clear_before}
use Rattle.commuting.specs.Basis.{Basis}
use Rattle.commuting.specs.Clear.{IsReady, IsClear, IsUnblocked}
use Rattle.commuting.specs.Commuting.{BothEnd, IsSameButLogsMore, AreClear, entries_of}
use Rattle.commuting.specs.Rounds.{is_clear, clear_tasks, after_round, TakesRounds, ClearTasksAreListed, RoundsKeepReady, RoundsKeepStanding, EndsTakeRounds, RoundsEnd, RoundsAreOneNumber}
use Rattle.commuting.specs.Standing.{StandsFor}
use Rattle.commuting.specs.States.{State, state_of, execution_from, run_from, after_task, after_tasks, entry_of}
use Rattle.commuting.proofs.Pairs.{earliest_is_clear}
use Rattle.commuting.proofs.Runs.{run_clear}
use Rattle.commuting.proofs.Several.{rest_clear, same_entries, clear_tasks_stay_clear_in_turn, clear_tasks_may_all_act_at_once}
use Rattle.commuting.proofs.Standing.{clear_tasks_keep_standing}

-- ---- lists

none_there : {X : Type 0} (test : X → Bool) (x : X) (xs : List X) (here : Bool) → test x ≡ here → (here || list_any test xs) ≡ false → (test x ≡ false) × (list_any test xs ≡ false)
none_there test x xs true is none = absurd (true≢false none)
none_there test x xs false is none = (is, none)

all_from_none : {X : Type 0} (test : X → Bool) (xs : List X) → list_any test xs ≡ false → AllByRecursion (λ x. test x ≡ false) xs
all_from_none test [] none = tt
all_from_none test (x ∷ xs) none =
    let parts = none_there test x xs (test x) refl none in
    (parts.0, all_from_none test xs parts.1)

module _ {V : Type 0} {app : Application V} (basis : Basis app) where
  -- ---- the clear tasks

  unblocked_from_test : (state : State V) (task : Task) → is_clear app state task ≡ true → IsUnblocked app (set_in app state.cells) state.pending task
  unblocked_from_test state task is =
      let earlier = tasks_before task.key state.pending in
      let Test = λ (other : Task). conflicts_with (set_in app state.cells other) (set_in app state.cells task) in
      let parts = and_parts (not (list_any Test earlier)) (app.is_safe task earlier) is in
      record {
        apart =
            All-weaker (λ other. Test other ≡ false) (λ other. ¬ Conflicts (set_in app state.cells other) (set_in app state.cells task))
            (λ other free conflict. true≢false (sym ((basis.lower.decided (set_in app state.cells other) (set_in app state.cells task)).1 conflict) ∙ free))
            earlier (all_from_none Test earlier (not-true (list_any Test earlier) parts.0));
        safe = parts.1;
      }

  test_from_unblocked : (state : State V) (task : Task) → IsUnblocked app (set_in app state.cells) state.pending task → is_clear app state task ≡ true
  test_from_unblocked state task unblocked =
      let earlier = tasks_before task.key state.pending in
      let Test = λ (other : Task). conflicts_with (set_in app state.cells other) (set_in app state.cells task) in
      and_from (not (list_any Test earlier)) (app.is_safe task earlier)
      (ap not (none_from_all Test earlier
      (All-weaker (λ other. ¬ Conflicts (set_in app state.cells other) (set_in app state.cells task)) (λ other. Test other ≡ false) (λ other free. not_conflicting other free (Test other) refl) earlier unblocked.apart)))
      unblocked.safe
    where
      not_conflicting : (other : Task) → ¬ Conflicts (set_in app state.cells other) (set_in app state.cells task) → (found : Bool) → conflicts_with (set_in app state.cells other) (set_in app state.cells task) ≡ found → found ≡ false
      not_conflicting other free true is = absurd (free ((basis.lower.decided (set_in app state.cells other) (set_in app state.cells task)).0 is))
      not_conflicting other free false is = refl

  pub clear_tasks_are_listed : ClearTasksAreListed app
  clear_tasks_are_listed state ready =
      let tasks = clear_tasks app state in
      let up = IsAscending-filter (is_clear app state) state.pending ready.ascending in
      record {
        clear = record {
          distinct = basis.lower.distinct tasks up;
          clear =
              recursion_from_All (IsClear app state) tasks
              (λ k d within. record {
                pending = All-from_recursion (Contains state.pending) tasks (All-filter (Contains state.pending) (is_clear app state) state.pending (recursion_from_All (Contains state.pending) state.pending (All-contains_itself state.pending))) k d within;
                unblocked = unblocked_from_test state _ (filter_passes (is_clear app state) state.pending k d within);
              });
        };
        ascending = up;
        all = λ task clear. in_filter (is_clear app state) state.pending task clear.pending (test_from_unblocked state task clear.unblocked);
      }

  round_clear : (state : State V) → IsReady app state → AreClear app state (clear_tasks app state)
  round_clear state ready = (clear_tasks_are_listed state ready).clear

  -- ---- after a round

  pub rounds_keep_ready : RoundsKeepReady app
  rounds_keep_ready state ready =
      (clear_tasks_stay_clear_in_turn basis state (clear_tasks app state) [] ready
      (subst (AreClear app state) (sym (append-nil (clear_tasks app state))) (round_clear state ready))).ready

  entries_new : (cells : List V) (key : Key) (tasks : List Task) → AllByRecursion (λ task. task.key ≢ key) tasks → IsNewEntry key (entries_of app.act cells tasks)
  entries_new cells key [] new = tt
  entries_new cells key (task ∷ tasks) new = (new.0, entries_new cells key tasks new.1)

  clear_tasks_all_keep_standing : (start now : State V) (entries : List Entry) (tasks : List Task) → StandsFor app start entries now → AreClear app now tasks
      → StandsFor app start (joined_by_key entries (entries_of app.act now.cells tasks)) (after_tasks app.act tasks now)
  clear_tasks_all_keep_standing start now entries [] stands clear = stands
  clear_tasks_all_keep_standing start now entries (task ∷ tasks) stands clear =
      let next = after_task app.act task now in
      let more = entries_of app.act now.cells tasks in
      let entry = entry_of app.act now.cells task in
      let rest = clear_tasks_all_keep_standing start next _ tasks (clear_tasks_keep_standing basis start now entries task stands clear.clear.0) (rest_clear basis now task tasks stands.ready clear) in
      subst (λ log. StandsFor app start log (after_tasks app.act tasks next))
      (ap (joined_by_key (joined_by_key entries (entry ∷ []))) (same_entries basis now task tasks stands.ready clear)
      ∙ (basis.lower.joins_take_puts entry.0 entry.1 entries more).0 (entries_new now.cells task.key tasks clear.distinct.0))
      rest

  pub rounds_keep_standing : RoundsKeepStanding app
  rounds_keep_standing start now entries stands = clear_tasks_all_keep_standing start now entries (clear_tasks app now) stands (round_clear now stands.ready)

  -- ---- the number of rounds

  -- a round has a task, where any is pending
  round_has_first : (cells : List V) (task : Task) (others : List Task) → IsReady app (state_of cells (task ∷ others)) → 0 < length (clear_tasks app (state_of cells (task ∷ others)))
  round_has_first cells task others ready =
      let state = state_of cells (task ∷ others) in
      let first = test_from_unblocked state task (earliest_is_clear basis cells task others ready).unblocked in
      subst (λ b. 0 < length (cond b (task ∷ filter (is_clear app state) others) (filter (is_clear app state) others))) (sym first) (omega arith)

  length-entries_of : (cells : List V) (tasks : List Task) → length (entries_of app.act cells tasks) ≡ length tasks
  length-entries_of cells [] = refl
  length-entries_of cells (task ∷ tasks) = omega (arith, length-entries_of cells tasks)

  -- the run after a round is there too, and logs fewer tasks
  shorter : (entries : List Entry) (run : Option (Execution V)) (e : Execution V) → BothEnd (IsSameButLogsMore entries) (Some e) run → 0 < length entries
      → (last : Execution V) × (run ≡ Some last) × (length last.log < length e.log)
  shorter entries None e both some = absurd both
  shorter entries (Some last) e both some = (last, refl, omega (arith, ap length both.log-is, basis.lower.joins_add_lengths last.log entries))

  next_run : (limit : ℕ) (cells : List V) (task : Task) (others : List Task) (e : Execution V) → IsReady app (state_of cells (task ∷ others)) → run_from app.act limit end (state_of cells (task ∷ others)) ≡ Some e
      → (last : Execution V) × (run_from app.act limit end (after_round app (state_of cells (task ∷ others))) ≡ Some last) × (length last.log < length e.log)
  next_run limit cells task others e ready is =
      let state = state_of cells (task ∷ others) in
      let round = clear_tasks app state in
      let entries = entries_of app.act cells round in
      let turned : limit + length round ≡ length round + limit = omega arith in
      let longer : run_from app.act (length round + limit) end state ≡ Some e =
      subst (λ n. run_from app.act n end state ≡ Some e) turned (basis.runs.greater_limits (execution_from state) limit (length round) end e is) in
      let both = (clear_tasks_may_all_act_at_once basis state round ready (round_clear state ready)).to_end limit in
      shorter entries (run_from app.act limit end (after_round app state)) e
      (subst (λ run. BothEnd (IsSameButLogsMore entries) run (run_from app.act limit end (after_round app state))) longer both)
      (omega (arith, round_has_first cells task others ready, length-entries_of cells round))

  not_empty : (task : Task) (others : List Task) → task ∷ others ≢ []
  not_empty task others same = absurd (cc)

  rounds_by : (tasks limit : ℕ) (cells : List V) (pending : List Task) (e : Execution V) → IsReady app (state_of cells pending) → run_from app.act limit end (state_of cells pending) ≡ Some e → length e.log ≤ tasks
      → (rounds : ℕ) × (rounds ≤ length e.log) × TakesRounds app rounds (state_of cells pending)
  rounds_by tasks limit cells [] e ready is up_to = (0, omega arith, refl)
  rounds_by zero limit cells (task ∷ others) e ready is up_to =
      let rest = next_run limit cells task others e ready is in
      absurd (omega (arith, rest.2, up_to))
  rounds_by (suc tasks) limit cells (task ∷ others) e ready is up_to =
      let state = state_of cells (task ∷ others) in
      let next = after_round app state in
      let rest = next_run limit cells task others e ready is in
      let rounds = rounds_by tasks limit next.cells next.pending rest.0 (rounds_keep_ready state ready) rest.1 (omega (arith, rest.2, up_to)) in
      (suc rounds.0, omega (arith, rest.2, rounds.1), (not_empty task others, rounds.2))

  some_rounds : (limit : ℕ) (state : State V) → IsReady app state → (run : Option (Execution V)) → run_from app.act limit end state ≡ run
      → IfSome run (λ e. (rounds : ℕ) × (rounds ≤ length e.log) × TakesRounds app rounds state)
  some_rounds limit state ready None is = tt
  some_rounds limit state ready (Some e) is = rounds_by (length e.log) limit state.cells state.pending e ready is (omega arith)

  pub ends_take_rounds : EndsTakeRounds app
  ends_take_rounds state ready limit = some_rounds limit state ready (run_from app.act limit end state) refl

  -- ---- and back

  some_before : (R : Execution V → Execution V → Type 0) (first second : Option (Execution V)) → BothEnd R first second → IsSome second → IsSome first
  some_before R None None both some = some
  some_before R None (Some e) both some = absurd both
  some_before R (Some e) second both some = refl

  pub rounds_end : RoundsEnd app
  rounds_end state ready zero ended =
      let clear = ap (λ pending. is_clear_before end (execution_from (state_of state.cells pending))) ended in
      (0, ap is_some (run_clear basis.runs 0 end (execution_from state) clear))
  rounds_end state ready (suc rounds) takes =
      let round = clear_tasks app state in
      let rest = rounds_end (after_round app state) (rounds_keep_ready state ready) rounds takes.1 in
      let both = (clear_tasks_may_all_act_at_once basis state round ready (round_clear state ready)).to_end rest.0 in
      (length round + rest.0, some_before (IsSameButLogsMore (entries_of app.act state.cells round)) (run_from app.act (length round + rest.0) end state) (run_from app.act rest.0 end (after_round app state)) both rest.1)

  pub rounds_are_one_number : RoundsAreOneNumber app
  rounds_are_one_number state zero zero takes others = refl
  rounds_are_one_number state zero (suc m) takes others = absurd (others.0 takes)
  rounds_are_one_number state (suc n) zero takes others = absurd (takes.0 others)
  rounds_are_one_number state (suc n) (suc m) takes others = ap suc (rounds_are_one_number (after_round app state) n m takes.1 others.1)
