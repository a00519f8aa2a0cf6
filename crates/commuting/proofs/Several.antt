-- Several clear tasks of one state.
use Rattle.std.proofs.Common.{◌≡◌, ◌≢◌, ℕ, suc, ◌+◌, Bool, true, false, cond, List, [], ◌∷◌, ◌++◌, length, Option, Some, None, refl, sym, ap, subst, ◌∙◌, arith}
use Rattle.std.specs.List.{AllByRecursion}
use Rattle.std.specs.List.Sorted.{IsPermutation}
use Rattle.std.specs.Ordering.{is_lt}
use Rattle.std.proofs.lemmas.List.Elements.{All-from_recursion, recursion_from_All}
use Rattle.std.proofs.lemmas.List.Sorted.{All-permutation, IsPermutation-refl, IsPermutation-sym, IsPermutation-trans, IsPermutation-cons}
use Rattle.plain_laws.specs.Lists.{All-weaker, All-joined}
use Rattle.task_order.specs.declared.task.Task.{Task}
use Rattle.task_order.specs.Key.{Bound, end, is_before, key_cmp}
use Rattle.task_order.specs.TaskList.{HasDistinctKeys, IsAscending, put_in}
use Rattle.task_order.specs.TaskListLaws.{All-put_in}
use Rattle.output_log.specs.Entries.{Entry, entries_before, joined_by_key}
use Rattle.app_laws.specs.Applications.{Application}
use Rattle.app_laws.specs.Execution.{Execution}
use Rattle.commuting.specs.Clear.{IsReady, IsClear}
use Rattle.commuting.specs.Commuting.{BothEnd, LogsMore, IsSameButLogsMore, AreBefore, AreClear, ClearTasksStayClearInTurn, ClearTasksActInAnyOrder, ClearTasksMayAllActAtOnce, entries_of}
use Rattle.commuting.specs.Independent.{AreIndependentTasks}
use Rattle.commuting.specs.Basis.{Basis}
use Rattle.commuting.specs.States.{State, run_from, after_task, after_tasks, entry_of}
use Rattle.commuting.proofs.Clearing.{clear_tasks_commute}
use Rattle.commuting.proofs.Pairs.{stays_ready, independent_tasks_commute, left_alone, clear_tasks_stay_clear, clear_tasks_are_independent}
use Rattle.commuting.specs.EndLaws.{both_follow}

-- ---- two runs beside one another

pub both_same : {V : Type 0} (R : Execution V → Execution V → Type 0) → ((e : Execution V) → R e e) → (run : Option (Execution V)) → BothEnd R run run
both_same R each None = tt
both_same R each (Some e) = each e

module _ {V : Type 0} {app : Application V} (basis : Basis app) where
  -- ---- turn by turn

  abbrev now : Task → State V → State V
  now task state = after_task app.act task state

  pairs_independent : (state : State V) (task : Task) (others : List Task) → IsReady app state → AreClear app state (task ∷ others) → AllByRecursion (AreIndependentTasks app state task) others
  pairs_independent state task others ready clear =
      All-joined (λ other. other.key ≢ task.key) (IsClear app state) (AreIndependentTasks app state task)
      (λ other differ other_clear. clear_tasks_are_independent basis state task other ready clear.clear.0 other_clear (λ same. differ (sym same)))
      others clear.distinct.0 clear.clear.1

  pub rest_clear : (state : State V) (task : Task) (others : List Task) → IsReady app state → AreClear app state (task ∷ others) → AreClear app (now task state) others
  rest_clear state task others ready clear = record {
    distinct = clear.distinct.1;
    clear =
        All-joined (AreIndependentTasks app state task) (IsClear app state) (IsClear app (now task state))
        (λ other both other_clear. clear_tasks_stay_clear basis state task other ready both other_clear)
        others (pairs_independent state task others ready clear) clear.clear.1;
  }

  same_entries_from : (cells others-cells : List V) (tasks : List Task) → AllByRecursion (λ task. entry_of app.act cells task ≡ entry_of app.act others-cells task) tasks
      → entries_of app.act cells tasks ≡ entries_of app.act others-cells tasks
  same_entries_from cells others-cells [] same = refl
  same_entries_from cells others-cells (task ∷ tasks) same = (λ i. same.0 i ∷ same_entries_from cells others-cells tasks same.1 i)

  pub same_entries : (state : State V) (task : Task) (others : List Task) → IsReady app state → AreClear app state (task ∷ others)
      → entries_of app.act (now task state).cells others ≡ entries_of app.act state.cells others
  same_entries state task others ready clear =
      same_entries_from (now task state).cells state.cells others
      (All-weaker (AreIndependentTasks app state task) (λ other. entry_of app.act (now task state).cells other ≡ entry_of app.act state.cells other)
      (λ other both. ap (λ text. (other.key, text)) (sym (left_alone basis state task other ready both).same_outcome.text))
      others (pairs_independent state task others ready clear))

  pub ready_next : (state : State V) (task : Task) (others : List Task) → IsReady app state → AreClear app state (task ∷ others) → IsReady app (now task state)
  ready_next state task others ready clear = stays_ready basis state task ready clear.clear.0.pending

  entries_behind : (cells others-cells : List V) (tasks others : List Task) → entries_of app.act cells (tasks ++ others) ≡ entries_of app.act others-cells (tasks ++ others)
      → entries_of app.act cells others ≡ entries_of app.act others-cells others
  entries_behind cells others-cells [] others same = same
  entries_behind cells others-cells (task ∷ tasks) others same =
      entries_behind cells others-cells tasks others (cc)

  pub clear_tasks_stay_clear_in_turn : ClearTasksStayClearInTurn app
  clear_tasks_stay_clear_in_turn state [] others ready clear = record { ready = ready; clear = clear; same_entries = refl }
  clear_tasks_stay_clear_in_turn state (task ∷ tasks) others ready clear =
      let rest = clear_tasks_stay_clear_in_turn (now task state) tasks others (ready_next state task (tasks ++ others) ready clear) (rest_clear state task (tasks ++ others) ready clear) in
      record {
        ready = rest.ready;
        clear = rest.clear;
        same_entries = rest.same_entries ∙ entries_behind (now task state).cells state.cells tasks others (same_entries state task (tasks ++ others) ready clear);
      }

  -- ---- in any order

  swapped_clear : (state : State V) (task other : Task) (others : List Task) → AreClear app state (task ∷ other ∷ others) → AreClear app state (other ∷ task ∷ others)
  swapped_clear state task other others clear = record {
    distinct = (((λ same. clear.distinct.0.0 (sym same)), clear.distinct.1.0), (clear.distinct.0.1, clear.distinct.1.1));
    clear = (clear.clear.1.0, (clear.clear.0, clear.clear.1.1));
  }

  -- a task may act at its place among others in order
  at_its_place : (state : State V) (task : Task) (others : List Task) → IsReady app state → AreClear app state (task ∷ others)
      → after_tasks app.act (put_in task others) state ≡ after_tasks app.act others (now task state)
  at_its_place state task [] ready clear = refl
  at_its_place state task (other ∷ others) ready clear =
      let swapped = swapped_clear state task other others clear in
      let rest = at_its_place (now other state) task others (ready_next state other (task ∷ others) ready swapped) (rest_clear state other (task ∷ others) ready swapped) in
      let both = (pairs_independent state other (task ∷ others) ready swapped).0 in
      let past_other : after_tasks app.act (put_in task others) (now other state) ≡ after_tasks app.act others (now other (now task state)) =
      rest ∙ ap (after_tasks app.act others) (independent_tasks_commute basis state other task ready both) in
      elim (is_lt (key_cmp other.key task.key)) as (λ past. after_tasks app.act (cond past (other ∷ put_in task others) (task ∷ other ∷ others)) state ≡ after_tasks app.act others (now other (now task state))) [
        | true ↦ past_other
        | false ↦ refl
      ]

  in_order : List Task → List Task
  in_order [] = []
  in_order (task ∷ tasks) = put_in task (in_order tasks)

  all-in_order : (P : Task → Type 0) (tasks : List Task) → AllByRecursion P tasks → AllByRecursion P (in_order tasks)
  unfolding in_order
  all-in_order P [] all = tt
  all-in_order P (task ∷ tasks) all = All-put_in P task (in_order tasks) all.0 (all-in_order P tasks all.1)

  ascending-in_order : (tasks : List Task) → HasDistinctKeys tasks → IsAscending (in_order tasks)
  unfolding in_order
  ascending-in_order [] distinct = tt
  ascending-in_order (task ∷ tasks) distinct = basis.lower.puts_ascend task (in_order tasks) (all-in_order (λ other. other.key ≢ task.key) tasks distinct.0) (ascending-in_order tasks distinct.1)

  permutation-in_order : (tasks : List Task) → IsPermutation tasks (in_order tasks)
  unfolding in_order
  permutation-in_order [] = IsPermutation-refl []
  permutation-in_order (task ∷ tasks) =
      IsPermutation-trans (task ∷ tasks) (task ∷ in_order tasks) (put_in task (in_order tasks))
      (IsPermutation-cons task tasks (in_order tasks) (permutation-in_order tasks))
      (basis.lower.puts_keep_tasks task (in_order tasks))

  clear-in_order : (state : State V) (task : Task) (others : List Task) → AreClear app state (task ∷ others) → AreClear app state (task ∷ in_order others)
  clear-in_order state task others clear = record {
    distinct = (all-in_order (λ other. other.key ≢ task.key) others clear.distinct.0, basis.lower.distinct (in_order others) (ascending-in_order others clear.distinct.1));
    clear = (clear.clear.0, all-in_order (IsClear app state) others clear.clear.1);
  }

  as_in_order : (state : State V) (tasks : List Task) → IsReady app state → AreClear app state tasks → after_tasks app.act (in_order tasks) state ≡ after_tasks app.act tasks state
  unfolding in_order
  as_in_order state [] ready clear = refl
  as_in_order state (task ∷ tasks) ready clear =
      at_its_place state task (in_order tasks) ready (clear-in_order state task tasks clear)
      ∙ as_in_order (now task state) tasks (ready_next state task tasks ready clear) (rest_clear state task tasks ready clear)

  pub clear_tasks_act_in_any_order : ClearTasksActInAnyOrder app
  clear_tasks_act_in_any_order state tasks others ready clear moved =
      let distinct = basis.lower.distinct_in_any_order tasks others clear.distinct moved in
      let others_clear : AreClear app state others = record {
        distinct = distinct;
        clear = recursion_from_All (IsClear app state) others (All-permutation (IsClear app state) tasks others moved (All-from_recursion (IsClear app state) tasks clear.clear));
      } in
      let same = basis.lower.determined (in_order tasks) (in_order others) (ascending-in_order tasks clear.distinct) (ascending-in_order others distinct)
      (IsPermutation-trans (in_order tasks) tasks (in_order others) (IsPermutation-sym tasks (in_order tasks) (permutation-in_order tasks))
      (IsPermutation-trans tasks others (in_order others) moved (permutation-in_order others))) in
      sym (as_in_order state tasks ready clear) ∙ ap (λ l. after_tasks app.act l state) same ∙ as_in_order state others ready others_clear

  -- ---- runs

  one_shorter : (count limit : ℕ) → suc count + limit ≡ suc (count + limit)
  one_shorter count limit = omega arith

  to_later_bound : (state : State V) (tasks : List Task) → IsReady app state → AreClear app state tasks → (bound : Bound) (limit : ℕ) → AreBefore bound tasks
      → BothEnd (IsSameButLogsMore (entries_of app.act state.cells tasks))
      (run_from app.act (length tasks + limit) bound state)
      (run_from app.act limit bound (after_tasks app.act tasks state))
  to_later_bound state [] ready clear bound limit before =
      let none : 0 + limit ≡ limit = omega arith in
      subst (λ n. BothEnd (IsSameButLogsMore []) (run_from app.act n bound state) (run_from app.act limit bound state)) (sym none)
      (both_same (IsSameButLogsMore []) (λ e. record { cells-are = refl; pending-are = refl; log-is = refl }) (run_from app.act limit bound state))
  to_later_bound state (task ∷ tasks) ready clear bound limit before =
      let next = now task state in
      let rest = to_later_bound next tasks (ready_next state task tasks ready clear) (rest_clear state task tasks ready clear) bound limit before.1 in
      let first = (clear_tasks_commute basis state task ready clear.clear.0).to_later_bound bound (length tasks + limit) before.0 in
      let entries = entries_of app.act state.cells tasks in
      subst (λ n. BothEnd (IsSameButLogsMore (entry_of app.act state.cells task ∷ entries)) (run_from app.act n bound state) (run_from app.act limit bound (after_tasks app.act tasks next))) (sym (one_shorter (length tasks) limit))
      (both_follow (IsSameButLogsMore (entry_of app.act state.cells task ∷ [])) (IsSameButLogsMore entries) (IsSameButLogsMore (entry_of app.act state.cells task ∷ entries))
      (λ e other last one more. record {
        cells-are = one.cells-are ∙ more.cells-are;
        pending-are = one.pending-are ∙ more.pending-are;
        log-is = one.log-is ∙ ap (λ log. joined_by_key log (entry_of app.act state.cells task ∷ [])) more.log-is;
      })
      (run_from app.act (suc (length tasks + limit)) bound state)
      (run_from app.act (length tasks + limit) bound next)
      (run_from app.act limit bound (after_tasks app.act tasks next))
      first
      (subst (λ more. BothEnd (IsSameButLogsMore more) (run_from app.act (length tasks + limit) bound next) (run_from app.act limit bound (after_tasks app.act tasks next))) (same_entries state task tasks ready clear) rest))

  all_before_end : (tasks : List Task) → AreBefore end tasks
  all_before_end [] = tt
  all_before_end (task ∷ tasks) = (refl, all_before_end tasks)

  -- the runs with the entries of the tasks that are earlier than a bound
  abbrev LogsMoreTo : Bound → ℕ → State V → State V → List Entry → Type 0
  LogsMoreTo bound limit state last entries =
      BothEnd (LogsMore entries) (run_from app.act (length entries + limit) bound state) (run_from app.act limit bound last)

  to_any_bound : (state : State V) (tasks : List Task) → IsReady app state → AreClear app state tasks → (bound : Bound) (limit : ℕ)
      → LogsMoreTo bound limit state (after_tasks app.act tasks state) (entries_before bound (entries_of app.act state.cells tasks))
  to_any_bound state [] ready clear bound limit =
      let none : 0 + limit ≡ limit = omega arith in
      subst (λ n. BothEnd (LogsMore []) (run_from app.act n bound state) (run_from app.act limit bound state)) (sym none)
      (both_same (LogsMore []) (λ e. refl) (run_from app.act limit bound state))
  to_any_bound state (task ∷ tasks) ready clear bound limit =
      by_case (is_before task.key bound) refl
      (subst (λ entries. LogsMoreTo bound limit (now task state) (after_tasks app.act tasks (now task state)) (entries_before bound entries)) (same_entries state task tasks ready clear)
      (to_any_bound (now task state) tasks (ready_next state task tasks ready clear) (rest_clear state task tasks ready clear) bound limit))
    where
      by_case : (before : Bool) → is_before task.key bound ≡ before
          → (let entries = entries_before bound (entries_of app.act state.cells tasks) in LogsMoreTo bound limit (now task state) (after_tasks app.act tasks (now task state)) entries)
          → (let entries = entries_before bound (entries_of app.act state.cells tasks) in LogsMoreTo bound limit state (after_tasks app.act tasks (now task state)) (cond before (entry_of app.act state.cells task ∷ entries) entries))
      by_case true is rest =
          let entries = entries_before bound (entries_of app.act state.cells tasks) in
          let more = entry_of app.act state.cells task ∷ entries in
          let last = after_tasks app.act tasks (now task state) in
          subst (λ n. BothEnd (LogsMore more) (run_from app.act n bound state) (run_from app.act limit bound last)) (sym (one_shorter (length entries) limit))
          (both_follow (IsSameButLogsMore (entry_of app.act state.cells task ∷ [])) (LogsMore entries) (LogsMore more)
          (λ e other last one logs. one.log-is ∙ ap (λ log. joined_by_key log (entry_of app.act state.cells task ∷ [])) logs)
          (run_from app.act (suc (length entries + limit)) bound state)
          (run_from app.act (length entries + limit) bound (now task state))
          (run_from app.act limit bound last)
          ((clear_tasks_commute basis state task ready clear.clear.0).to_later_bound bound (length entries + limit) is)
          rest)
      by_case false is rest =
          let entries = entries_before bound (entries_of app.act state.cells tasks) in
          let last = after_tasks app.act tasks (now task state) in
          both_follow (λ e other. e.log ≡ other.log) (LogsMore entries) (LogsMore entries) (λ e other last same logs. same ∙ logs)
          (run_from app.act (length entries + limit) bound state)
          (run_from app.act (length entries + limit) bound (now task state))
          (run_from app.act limit bound last)
          ((clear_tasks_commute basis state task ready clear.clear.0).to_other_bound bound (length entries + limit) is)
          rest

  pub clear_tasks_may_all_act_at_once : ClearTasksMayAllActAtOnce app
  clear_tasks_may_all_act_at_once state tasks ready clear = record {
    to_end = λ limit. to_later_bound state tasks ready clear end limit (all_before_end tasks);
    to_later_bound = to_later_bound state tasks ready clear;
    to_any_bound = to_any_bound state tasks ready clear;
  }
