-- Two pending tasks of a state that don't conflict.
use Rattle.std.proofs.Common.{◌≡◌, true, List, ◌∷◌, refl, sym, ap, subst, ◌∙◌, ⊎_elim, arith}
use Rattle.std.specs.List.{AllByRecursion, Contains}
use Rattle.std.proofs.lemmas.List.Elements.{All-from_recursion, All-contains}
use Rattle.std.proofs.lemmas.List.Sorted.{Contains-permutation}
use Rattle.std.specs.declared.cmp.Ordering.TheVariants.{Less}
use Rattle.std.specs.Ordering.{is_lt}
use Rattle.plain_laws.specs.Lists.{All-filter}
use Rattle.task_order.specs.declared.task.Task.{Task}
use Rattle.task_order.specs.Key.{key_cmp}
use Rattle.task_order.specs.TaskList.{put_in, without}
use Rattle.task_order.specs.TaskListLaws.{tasks_before-later}
use Rattle.rw_sets.specs.Accesses.{Conflicts}
use Rattle.app_laws.specs.Applications.{Application, set_in}
use Rattle.app_laws.specs.ApartLaws.{TasksApart, new_key_from_apart}
use Rattle.commuting.specs.Clear.{IsReady, IsClear, IsUnblocked}
use Rattle.commuting.specs.Independent.{AreIndependentTasks, IsLeftAlone, StaysReady, IndependentTasksCommute, IndependentTasksLeaveAlone, ClearTasksStayClear, ClearTasksAreIndependent, EarliestIsClear}
use Rattle.commuting.specs.Basis.{Basis}
use Rattle.commuting.specs.States.{State, state_of, after_task}
use Rattle.commuting.proofs.Cells.{agree_after, same_set, same_outcome}
use Rattle.commuting.proofs.Clearing.{lacking, put_back, beside_lacking, unblocked_lacking, unblocked_with}
use Rattle.commuting.proofs.Pending.{all_from_filter}
use Rattle.commuting.proofs.Runs.{turn}
use Rattle.commuting.proofs.StaysClear.{stays_unblocked}
use Rattle.commuting.proofs.Turns.{IsBeside, AreIndependentBeside, aside_here, children_of, children_new, ready_turn, beside_turn, turns_commute}

module _ {V : Type 0} {app : Application V} (basis : Basis app) where
  pub stays_ready : StaysReady app
  stays_ready state task ready pending = ready_turn basis task (lacking basis state task) (beside_lacking basis state task ready pending)

  has_put_in : (task : Task) (tasks : List Task) → Contains (put_in task tasks) task
  has_put_in task tasks = Contains-permutation (task ∷ tasks) (put_in task tasks) task (basis.lower.puts_keep_tasks task tasks) (0, omega arith, refl)

  module _ (state : State V) (task other : Task) (ready : IsReady app state) (both : AreIndependentTasks app state task other) where
    -- the state without either
    abbrev base : State V
    base = lacking basis (lacking basis state task) other

    other_left : Contains (without task.key state.pending) other
    other_left = (basis.lower.others task.key state.pending other).1 (both.other_pending, (λ same. both.differ (sym same)))

    first_beside : IsBeside app task (lacking basis state task)
    first_beside = beside_lacking basis state task ready both.task_pending

    independent : AreIndependentBeside app task other base
    independent =
        let second = beside_lacking basis (lacking basis state task) other first_beside.ready other_left in
        record {
          task_beside = record {
            ready = second.ready;
            fit = first_beside.fit;
            apart = All-filter (TasksApart task) _ (without task.key state.pending) first_beside.apart;
          };
          other_beside = second;
          paths_apart = All-contains (TasksApart task) (without task.key state.pending) other (All-from_recursion (TasksApart task) (without task.key state.pending) first_beside.apart) other_left;
          sets_apart = both.apart;
        }

    other_put_back : put_in other base.pending ≡ without task.key state.pending
    other_put_back = put_back basis (lacking basis state task) other first_beside.ready other_left

    -- the task acts, and the other is pending still
    after_one : after_task app.act task state ≡ state_of (turn app.act task base).cells (put_in other (turn app.act task base).pending)
    after_one =
        ap (λ tasks. turn app.act task (state_of state.cells tasks)) (sym other_put_back)
        ∙ ap (λ tasks. state_of (app.act task state.cells).cells tasks)
        (basis.lower.put_all_commutes other (children_of app state.cells task) base.pending (children_new basis task state.cells other independent.paths_apart))

    next_beside : IsBeside app other (turn app.act task base)
    next_beside = beside_turn basis task other base independent.task_beside independent.other_beside independent.paths_apart

    pub after_both : after_task app.act other (after_task app.act task state) ≡ turn app.act other (turn app.act task base)
    after_both =
        ap (after_task app.act other) after_one
        ∙ ap (λ tasks. turn app.act other (state_of (turn app.act task base).cells tasks))
        (basis.lower.without_put other (turn app.act task base).pending (new_key_from_apart other (turn app.act task base).pending next_beside.apart))

    pub left_alone : IsLeftAlone app state (after_task app.act task state) other
    left_alone =
        let aside = aside_here basis task other base independent in
        record {
          pending = subst (λ s. Contains s.pending other) (sym after_one) (has_put_in other (turn app.act task base).pending);
          same_cells = agree_after basis state.cells task other aside;
          same_set = same_set basis state.cells task other aside;
          same_outcome = same_outcome basis state.cells task other aside;
        }

    -- the state without the other has the task
    without_other : without other.key state.pending ≡ put_in task base.pending
    without_other =
        let second = beside_lacking basis state other ready both.other_pending in
        let left = (basis.lower.others other.key state.pending task).1 (both.task_pending, both.differ) in
        sym (put_back basis (lacking basis state other) task second.ready left)
        ∙ ap (put_in task) (basis.lower.without_commutes task.key other.key state.pending)

    pub stays_clear : IsClear app state other → IsClear app (after_task app.act task state) other
    stays_clear clear =
        let was = subst (λ tasks. IsUnblocked app (set_in app state.cells) tasks other) without_other (unblocked_lacking basis state other ready clear.pending clear.unblocked) in
        let now = unblocked_with basis (turn app.act task base).cells other (turn app.act task base).pending (stays_unblocked basis task other base independent was) in
        record {
          pending = left_alone.pending;
          unblocked = subst (λ s. IsUnblocked app (set_in app s.cells) s.pending other) (sym after_one) now;
        }

  independent_turned : (state : State V) (task other : Task) → AreIndependentTasks app state task other → AreIndependentTasks app state other task
  independent_turned state task other both = record {
    task_pending = both.other_pending;
    other_pending = both.task_pending;
    differ = λ same. both.differ (sym same);
    apart = λ conflict. both.apart (basis.lower.turned (set_in app state.cells other) (set_in app state.cells task) conflict);
  }

  pub independent_tasks_commute : IndependentTasksCommute app
  independent_tasks_commute state task other ready both =
      after_both state task other ready both
      ∙ turns_commute basis task other (base state task other ready both) (independent state task other ready both)
      ∙ ap (λ tasks. turn app.act task (turn app.act other (state_of state.cells tasks))) (basis.lower.without_commutes other.key task.key state.pending)
      ∙ sym (after_both state other task ready (independent_turned state task other both))

  pub independent_tasks_leave_alone : IndependentTasksLeaveAlone app
  independent_tasks_leave_alone = left_alone

  pub clear_tasks_stay_clear : ClearTasksStayClear app
  clear_tasks_stay_clear = stays_clear

  -- a clear task doesn't conflict with an earlier one
  apart_from_earlier : (state : State V) (task other : Task) → Contains state.pending task → key_cmp task.key other.key ≡ Less → IsClear app state other → ¬ Conflicts (set_in app state.cells task) (set_in app state.cells other)
  apart_from_earlier state task other pending earlier clear =
      let Free = λ (third : Task). ¬ Conflicts (set_in app state.cells third) (set_in app state.cells other) in
      let Test = λ (third : Task). is_lt (key_cmp third.key other.key) in
      All-contains (λ third. Test third ≡ true → Free third) state.pending task
      (All-from_recursion (λ third. Test third ≡ true → Free third) state.pending (all_from_filter Free Test state.pending clear.unblocked.apart))
      pending (ap is_lt earlier)

  pub clear_tasks_are_independent : ClearTasksAreIndependent app
  clear_tasks_are_independent state task other ready clear other_clear differ = record {
    task_pending = clear.pending;
    other_pending = other_clear.pending;
    differ = differ;
    apart =
        ⊎_elim
        (λ earlier. apart_from_earlier state task other clear.pending earlier other_clear)
        (λ later conflict. apart_from_earlier state other task other_clear.pending later clear (basis.lower.turned (set_in app state.cells task) (set_in app state.cells other) conflict))
        (basis.lower.connected task.key other.key differ);
  }

  pub earliest_is_clear : EarliestIsClear app
  earliest_is_clear cells task others ready =
      let none = tasks_before-later task.key others ready.ascending.0 in
      let unblocked : IsUnblocked app (set_in app cells) others task = record {
        apart = subst (λ tasks. AllByRecursion (λ other. ¬ Conflicts (set_in app cells other) (set_in app cells task)) tasks) (sym none) tt;
        safe = ap (app.is_safe task) none ∙ basis.lawful.safe_alone task ready.tasks.0;
      } in
      record {
        pending = (0, omega arith, refl);
        unblocked =
            subst (λ tasks. IsUnblocked app (set_in app cells) tasks task) (basis.lower.earliest_first task others ready.ascending.0)
            (unblocked_with basis cells task others unblocked);
      }
