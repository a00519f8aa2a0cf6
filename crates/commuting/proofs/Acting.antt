-- A clear task may act at once: by induction over the steps of the run.
use Rattle.std.proofs.Common.{◌≡◌, ℕ, zero, suc, Bool, true, false, cond, List, [], ◌∷◌, Some, None, refl, sym, ap, subst, ◌∙◌, ⊎_elim}
use Rattle.std.specs.List.{AllByRecursion}
use Rattle.std.specs.Option.{option_map}
use Rattle.std.specs.declared.cmp.Ordering.TheVariants.{Less}
use Rattle.std.specs.Ordering.{is_lt}
use Rattle.std.proofs.lemmas.Bool.{true≢false}
use Rattle.plain_laws.specs.Lists.{All-weaker}
use Rattle.plain_laws.specs.Orderings.{less_from_test}
use Rattle.task_order.specs.declared.task.Task.{Task}
use Rattle.task_order.specs.Key.{Bound, is_before, key_cmp, key_cmp_total}
use Rattle.task_order.specs.TaskList.{put_in}
use Rattle.task_order.specs.TaskListLaws.{All-put_in, All-put_all}
use Rattle.task_order.specs.KeyLaws.{before_earlier, not_before_later}
use Rattle.app_laws.specs.Applications.{Application}
use Rattle.app_laws.specs.Execution.{Execution, run_until}
use Rattle.commuting.specs.States.{State, state_of, execution_from, run_from, entry_of}
use Rattle.commuting.specs.Commuting.{BothEnd, IsSameButLogsMore}
use Rattle.commuting.specs.Basis.{Basis}
use Rattle.commuting.proofs.Behind.{IsClearBeside, IsBehind, rest, next, next_clear, first_then, task_then, independent, same_first_entry, entry_goes_behind}
use Rattle.commuting.proofs.Ends.{none_before_first, none_before_put_in, none_before_all, both_mapped, first_acts}
use Rattle.commuting.proofs.Pending.{differ_where_apart}
use Rattle.commuting.proofs.Runs.{with_front, turn, run_clear, run_task, run_refused}
use Rattle.commuting.proofs.Turns.{IsBeside, children_of, children_later, turns_commute}

module _ {V : Type 0} {app : Application V} (basis : Basis app) where
  -- whether the first of some tasks in order is later than another one, all are
  all_later : (cells : List V) (task first : Task) (others : List Task) → IsBeside app task (state_of cells (first ∷ others)) → is_lt (key_cmp first.key task.key) ≡ false
      → AllByRecursion (λ other. key_cmp task.key other.key ≡ Less) (first ∷ others)
  all_later cells task first others beside past =
      let later : key_cmp task.key first.key ≡ Less =
      ⊎_elim
      (λ after. after)
      (λ earlier. absurd (true≢false (sym (ap is_lt earlier) ∙ past)))
      (basis.lower.connected task.key first.key (differ_where_apart task first beside.apart.0)) in
      (later, All-weaker (λ other. key_cmp first.key other.key ≡ Less) (λ other. key_cmp task.key other.key ≡ Less) (λ other. key_cmp_total.trans task.key first.key other.key later) others beside.ready.ascending.0)

  -- where the first of the others is earlier than the clear task, it is taken by both runs
  module _ {cells : List V} {first task : Task} {others : List Task} (behind : IsBehind app cells first task others) where
    -- both runs take the first
    pub both_take_first : (bound : Bound) → is_before first.key bound ≡ true → (R S : Execution V → Execution V → Type 0)
        → ((e other : Execution V) → R e other → S (with_front (entry_of app.act cells first ∷ []) e) (with_front (entry_of app.act cells first ∷ []) other))
        → (limit limit' : ℕ)
        → BothEnd R (run_from app.act limit bound (state_of (next basis behind).cells (put_in task (next basis behind).pending))) (run_from app.act limit' bound (turn app.act task (next basis behind)))
        → BothEnd S (run_from app.act (suc limit) bound (state_of cells (first ∷ put_in task others))) (run_from app.act (suc limit') bound (turn app.act task (state_of cells (first ∷ others))))
    both_take_first bound is R S more limit limit' both =
        let entry = entry_of app.act cells first in
        let here : run_from app.act (suc limit) bound (state_of cells (first ∷ put_in task others)) ≡ option_map (with_front (entry ∷ [])) (run_from app.act limit bound (state_of (next basis behind).cells (put_in task (next basis behind).pending))) =
        run_task basis.runs limit bound cells first (put_in task others) (none_before_first bound first (put_in task others) is)
        ∙ ap (λ e. option_map (with_front (entry ∷ [])) (run_until app.act limit bound e)) (first_then basis behind) in
        let there : run_from app.act (suc limit') bound (turn app.act task (state_of cells (first ∷ others))) ≡ option_map (with_front (entry ∷ [])) (run_from app.act limit' bound (turn app.act task (next basis behind))) =
        ap (λ s. run_from app.act (suc limit') bound s) (task_then basis behind)
        ∙ run_task basis.runs limit' bound (app.act task cells).cells first (turn app.act task (rest basis behind)).pending (none_before_first bound first (turn app.act task (rest basis behind)).pending is)
        ∙ ap (λ entry. option_map (with_front (entry ∷ [])) (run_from app.act limit' bound (turn app.act first (turn app.act task (rest basis behind))))) (same_first_entry basis behind)
        ∙ ap (λ s. option_map (with_front (entry ∷ [])) (run_from app.act limit' bound s)) (sym (turns_commute basis first task (rest basis behind) (independent basis behind))) in
        subst (λ run. BothEnd S run (run_from app.act (suc limit') bound (turn app.act task (state_of cells (first ∷ others))))) (sym here)
        (subst (λ run. BothEnd S (option_map (with_front (entry ∷ [])) (run_from app.act limit bound (state_of (next basis behind).cells (put_in task (next basis behind).pending)))) run) (sym there)
        (both_mapped R S (with_front (entry ∷ [])) (with_front (entry ∷ [])) more
        (run_from app.act limit bound (state_of (next basis behind).cells (put_in task (next basis behind).pending)))
        (run_from app.act limit' bound (turn app.act task (next basis behind))) both))

    -- neither may take a step
    pub both_refused : (bound : Bound) → is_before first.key bound ≡ true → (R : Execution V → Execution V → Type 0)
        → BothEnd R (run_from app.act zero bound (state_of cells (first ∷ put_in task others))) (run_from app.act zero bound (turn app.act task (state_of cells (first ∷ others))))
    both_refused bound is R =
        let here = run_refused basis.runs bound (execution_from (state_of cells (first ∷ put_in task others))) (none_before_first bound first (put_in task others) is) in
        let there =
        ap (λ s. run_from app.act zero bound s) (task_then basis behind)
        ∙ run_refused basis.runs bound (execution_from (state_of (app.act task cells).cells (first ∷ (turn app.act task (rest basis behind)).pending))) (none_before_first bound first (turn app.act task (rest basis behind)).pending is) in
        subst (λ run. BothEnd R run (run_from app.act zero bound (turn app.act task (state_of cells (first ∷ others))))) (sym here)
        (subst (λ run. BothEnd R None run) (sym there) tt)

    -- where the task is before the bound, no step isn't enough for either
    none_of_both : (bound : Bound) → is_before task.key bound ≡ true → (R : Execution V → Execution V → Type 0)
        → BothEnd R (run_from app.act 1 bound (state_of cells (first ∷ put_in task others))) (run_from app.act zero bound (turn app.act task (state_of cells (first ∷ others))))
    none_of_both bound is R =
        let entry = entry_of app.act cells first in
        let is-first = before_earlier first.key task.key bound behind.earlier is in
        let here =
        run_task basis.runs zero bound cells first (put_in task others) (none_before_first bound first (put_in task others) is-first)
        ∙ ap (λ e. option_map (with_front (entry ∷ [])) (run_until app.act zero bound e)) (first_then basis behind)
        ∙ ap (option_map (with_front (entry ∷ []))) (run_refused basis.runs bound (execution_from (state_of (next basis behind).cells (put_in task (next basis behind).pending))) (none_before_put_in bound task (next basis behind).pending is)) in
        let there =
        ap (λ s. run_from app.act zero bound s) (task_then basis behind)
        ∙ run_refused basis.runs bound (execution_from (state_of (app.act task cells).cells (first ∷ (turn app.act task (rest basis behind)).pending))) (none_before_first bound first (turn app.act task (rest basis behind)).pending is-first) in
        subst (λ run. BothEnd R run (run_from app.act zero bound (turn app.act task (state_of cells (first ∷ others))))) (sym here)
        (subst (λ run. BothEnd R None run) (sym there) tt)

  module _ (bound : Bound) (task : Task) where
    -- to a bound that is later than the task, the run is a step shorter
    abbrev StepLess : ℕ → List V → List Task → List Task → Type 0
    StepLess limit cells pending others =
        BothEnd (IsSameButLogsMore (entry_of app.act cells task ∷ []))
        (run_from app.act (suc limit) bound (state_of cells pending))
        (run_from app.act limit bound (turn app.act task (state_of cells others)))

    module _ (is : is_before task.key bound ≡ true) where
      pub to_later_bound : (limit : ℕ) (cells : List V) (others : List Task) → IsClearBeside app task (state_of cells others) → StepLess limit cells (put_in task others) others
      to_later_bound limit cells [] clear = first_acts basis limit bound cells task [] is clear.beside tt
      to_later_bound zero cells (first ∷ others) clear = by_case (is_lt (key_cmp first.key task.key)) refl
        where
          by_case : (past : Bool) → is_lt (key_cmp first.key task.key) ≡ past → StepLess zero cells (cond past (first ∷ put_in task others) (task ∷ first ∷ others)) (first ∷ others)
          by_case false is-past = first_acts basis zero bound cells task (first ∷ others) is clear.beside (all_later cells task first others clear.beside is-past)
          by_case true is-past =
              let behind : IsBehind app cells first task others = record { clear = clear; earlier = less_from_test _ is-past } in
              none_of_both behind bound is (IsSameButLogsMore (entry_of app.act cells task ∷ []))
      to_later_bound (suc limit) cells (first ∷ others) clear =
          by_case (is_lt (key_cmp first.key task.key)) refl
          (λ behind. let after = turn app.act first (state_of cells others) in to_later_bound limit after.cells after.pending (next_clear basis behind))
        where
          by_case : (past : Bool) → is_lt (key_cmp first.key task.key) ≡ past
              → (IsBehind app cells first task others → let after = turn app.act first (state_of cells others) in StepLess limit after.cells (put_in task after.pending) after.pending)
              → StepLess (suc limit) cells (cond past (first ∷ put_in task others) (task ∷ first ∷ others)) (first ∷ others)
          by_case false is-past hypothesis = first_acts basis (suc limit) bound cells task (first ∷ others) is clear.beside (all_later cells task first others clear.beside is-past)
          by_case true is-past hypothesis =
              let behind : IsBehind app cells first task others = record { clear = clear; earlier = less_from_test _ is-past } in
              let after = turn app.act first (state_of cells others) in
              both_take_first behind bound (before_earlier first.key task.key bound behind.earlier is)
              (IsSameButLogsMore (entry_of app.act after.cells task ∷ [])) (IsSameButLogsMore (entry_of app.act cells task ∷ [])) (entry_goes_behind basis behind)
              (suc limit) limit (hypothesis behind)

    -- to any other bound, both runs log the same
    abbrev SameLog : ℕ → List V → List Task → List Task → Type 0
    SameLog limit cells pending others =
        BothEnd (λ e other. e.log ≡ other.log)
        (run_from app.act limit bound (state_of cells pending))
        (run_from app.act limit bound (turn app.act task (state_of cells others)))

    module _ (is : is_before task.key bound ≡ false) where
      all_after_bound : (tasks : List Task) → AllByRecursion (λ other. key_cmp task.key other.key ≡ Less) tasks → AllByRecursion (λ other. is_before other.key bound ≡ false) tasks
      all_after_bound tasks = All-weaker (λ other. key_cmp task.key other.key ≡ Less) (λ other. is_before other.key bound ≡ false) (λ other later. not_before_later task.key other.key bound later is) tasks

      children_after_bound : (others : State V) → IsBeside app task others → AllByRecursion (λ other. is_before other.key bound ≡ false) (children_of app others.cells task)
      children_after_bound others beside = all_after_bound (children_of app others.cells task) (children_later basis task others.cells beside.ready.cells beside.fit)

      -- neither run has anything to do
      both_done : (limit : ℕ) (cells : List V) (pending others : List Task) → IsBeside app task (state_of cells others)
          → AllByRecursion (λ other. is_before other.key bound ≡ false) pending → AllByRecursion (λ other. is_before other.key bound ≡ false) others
          → SameLog limit cells pending others
      both_done limit cells pending others beside done rest =
          let here : Execution V = execution_from (state_of cells pending) in
          let there : Execution V = execution_from (turn app.act task (state_of cells others)) in
          let children = children_after_bound (state_of cells others) beside in
          subst (λ run. BothEnd (λ e other. e.log ≡ other.log) run (run_until app.act limit bound there)) (sym (run_clear basis.runs limit bound here (none_before_all bound pending done)))
          (subst (λ run. BothEnd (λ e other. e.log ≡ other.log) (Some here) run)
          (sym (run_clear basis.runs limit bound there (none_before_all bound there.pending (All-put_all (λ other. is_before other.key bound ≡ false) (children_of app cells task) others children rest))))
          refl)

      done_from_task : (limit : ℕ) (cells : List V) (others : List Task) → IsBeside app task (state_of cells others)
          → AllByRecursion (λ other. key_cmp task.key other.key ≡ Less) others → SameLog limit cells (task ∷ others) others
      done_from_task limit cells others beside later = both_done limit cells (task ∷ others) others beside (is, all_after_bound others later) (all_after_bound others later)

      done_from_first : (limit : ℕ) (cells : List V) (first : Task) (others : List Task) → IsBeside app task (state_of cells (first ∷ others))
          → is_before first.key bound ≡ false → SameLog limit cells (first ∷ put_in task others) (first ∷ others)
      done_from_first limit cells first others beside is-first =
          let After = λ (other : Task). is_before other.key bound ≡ false in
          let rest = All-weaker (λ other. key_cmp first.key other.key ≡ Less) After (λ other later. not_before_later first.key other.key bound later is-first) others beside.ready.ascending.0 in
          both_done limit cells (first ∷ put_in task others) (first ∷ others) beside (is-first, All-put_in After task others is rest) (is-first, rest)

      pub to_other_bound : (limit : ℕ) (cells : List V) (others : List Task) → IsClearBeside app task (state_of cells others) → SameLog limit cells (put_in task others) others
      to_other_bound limit cells [] clear = done_from_task limit cells [] clear.beside tt
      to_other_bound zero cells (first ∷ others) clear = by_case (is_lt (key_cmp first.key task.key)) (is_before first.key bound) refl refl
        where
          by_case : (past before : Bool) → is_lt (key_cmp first.key task.key) ≡ past → is_before first.key bound ≡ before
              → SameLog zero cells (cond past (first ∷ put_in task others) (task ∷ first ∷ others)) (first ∷ others)
          by_case false before is-past is-first = done_from_task zero cells (first ∷ others) clear.beside (all_later cells task first others clear.beside is-past)
          by_case true false is-past is-first = done_from_first zero cells first others clear.beside is-first
          by_case true true is-past is-first = both_refused (record { clear = clear; earlier = less_from_test _ is-past }) bound is-first (λ e other. e.log ≡ other.log)
      to_other_bound (suc limit) cells (first ∷ others) clear =
          by_case (is_lt (key_cmp first.key task.key)) (is_before first.key bound) refl refl
          (λ behind. let after = turn app.act first (state_of cells others) in to_other_bound limit after.cells after.pending (next_clear basis behind))
        where
          by_case : (past before : Bool) → is_lt (key_cmp first.key task.key) ≡ past → is_before first.key bound ≡ before
              → (IsBehind app cells first task others → let after = turn app.act first (state_of cells others) in SameLog limit after.cells (put_in task after.pending) after.pending)
              → SameLog (suc limit) cells (cond past (first ∷ put_in task others) (task ∷ first ∷ others)) (first ∷ others)
          by_case false before is-past is-first hypothesis = done_from_task (suc limit) cells (first ∷ others) clear.beside (all_later cells task first others clear.beside is-past)
          by_case true false is-past is-first hypothesis = done_from_first (suc limit) cells first others clear.beside is-first
          by_case true true is-past is-first hypothesis =
              let behind : IsBehind app cells first task others = record { clear = clear; earlier = less_from_test _ is-past } in
              both_take_first behind bound is-first
              (λ e other. e.log ≡ other.log) (λ e other. e.log ≡ other.log) (λ e other same. ap (λ log. entry_of app.act cells first ∷ log) same)
              limit limit (hypothesis behind)
