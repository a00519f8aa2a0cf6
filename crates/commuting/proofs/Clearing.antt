-- States with a task taken out, and put back.
use Rattle.std.proofs.Common.{◌≡◌, suc, refl, sym, ap, subst, ◌∙◌, List, [], ◌∷◌}
use Rattle.std.specs.List.{AllByRecursion, Contains}
use Rattle.std.proofs.lemmas.List.Elements.{All-from_recursion, All-contains}
use Rattle.plain_laws.specs.Lists.{All-filter}
use Rattle.task_order.specs.declared.task.Task.{Task}
use Rattle.task_order.specs.TaskList.{put_in, without, tasks_before}
use Rattle.rw_sets.specs.Accesses.{Conflicts}
use Rattle.app_laws.specs.Applications.{Application, IsFitTask, set_in}
use Rattle.app_laws.specs.Order.{Pairwise}
use Rattle.app_laws.specs.ApartLaws.{TasksApart, apart_from_put_in}
use Rattle.app_laws.specs.PairLaws.{Pairwise-filter}
use Rattle.commuting.specs.States.{State, state_of, run_from, after_task, entry_of}
use Rattle.commuting.specs.Clear.{IsReady, IsClear, IsUnblocked}
use Rattle.commuting.specs.Commuting.{BothEnd, IsSameButLogsMore, ClearTasksMayActAtOnce}
use Rattle.commuting.specs.Basis.{Basis}
use Rattle.commuting.proofs.Acting.{to_later_bound, to_other_bound}
use Rattle.commuting.proofs.Behind.{IsClearBeside}
use Rattle.commuting.proofs.Turns.{IsBeside}

module _ {V : Type 0} {app : Application V} (basis : Basis app) where
  -- the state without a task
  abbrev pub lacking : State V → Task → State V
  lacking state task = state_of state.cells (without task.key state.pending)

  pub put_back : (state : State V) (task : Task) → IsReady app state → Contains state.pending task → put_in task (without task.key state.pending) ≡ state.pending
  put_back state task ready pending = basis.lower.put_without task state.pending ready.ascending pending

  pub beside_lacking : (state : State V) (task : Task) → IsReady app state → Contains state.pending task → IsBeside app task (lacking state task)
  beside_lacking state task ready pending = record {
    ready = record {
      cells = ready.cells;
      tasks = All-filter (IsFitTask app) _ state.pending ready.tasks;
      ascending = basis.lower.without_ascends task.key state.pending ready.ascending;
      apart = Pairwise-filter TasksApart _ state.pending ready.apart;
    };
    fit = All-contains (IsFitTask app) state.pending task (All-from_recursion (IsFitTask app) state.pending ready.tasks) pending;
    apart = apart_from_put_in task (without task.key state.pending) (subst (λ tasks. Pairwise TasksApart tasks) (sym (put_back state task ready pending)) ready.apart);
  }

  -- a task is not before itself, so the tasks before it are those without it
  pub before_lacking : (state : State V) (task : Task) → IsReady app state → Contains state.pending task → tasks_before task.key state.pending ≡ tasks_before task.key (without task.key state.pending)
  before_lacking state task ready pending =
      ap (tasks_before task.key) (sym (put_back state task ready pending))
      ∙ basis.lower.before_skips task.key task (without task.key state.pending) (λ less. basis.lower.irreflexive task.key task.key less refl)

  pub unblocked_lacking : (state : State V) (task : Task) → IsReady app state → Contains state.pending task
      → IsUnblocked app (set_in app state.cells) state.pending task → IsUnblocked app (set_in app state.cells) (without task.key state.pending) task
  unblocked_lacking state task ready pending unblocked =
      let same = before_lacking state task ready pending in
      record {
        apart = subst (λ tasks. AllByRecursion (λ other. ¬ Conflicts (set_in app state.cells other) (set_in app state.cells task)) tasks) same unblocked.apart;
        safe = ap (app.is_safe task) (sym same) ∙ unblocked.safe;
      }

  pub unblocked_with : (cells : List V) (task : Task) (others : List Task) → IsUnblocked app (set_in app cells) others task → IsUnblocked app (set_in app cells) (put_in task others) task
  unblocked_with cells task others unblocked =
      let same = basis.lower.before_skips task.key task others (λ less. basis.lower.irreflexive task.key task.key less refl) in
      record {
        apart = subst (λ tasks. AllByRecursion (λ other. ¬ Conflicts (set_in app cells other) (set_in app cells task)) tasks) (sym same) unblocked.apart;
        safe = ap (app.is_safe task) same ∙ unblocked.safe;
      }

  clear_lacking : (state : State V) (task : Task) → IsReady app state → IsClear app state task → IsClearBeside app task (lacking state task)
  clear_lacking state task ready clear = record {
    beside = beside_lacking state task ready clear.pending;
    unblocked = unblocked_lacking state task ready clear.pending clear.unblocked;
  }

  pub clear_tasks_commute : ClearTasksMayActAtOnce app
  clear_tasks_commute state task ready clear =
      let beside = clear_lacking state task ready clear in
      let whole = put_back state task ready clear.pending in
      record {
        to_later_bound = λ bound limit is.
            subst (λ tasks. BothEnd (IsSameButLogsMore (entry_of app.act state.cells task ∷ [])) (run_from app.act (suc limit) bound (state_of state.cells tasks)) (run_from app.act limit bound (after_task app.act task state))) whole
            (to_later_bound basis bound task is limit state.cells (without task.key state.pending) beside);
        to_other_bound = λ bound limit is.
            subst (λ tasks. BothEnd (λ e other. e.log ≡ other.log) (run_from app.act limit bound (state_of state.cells tasks)) (run_from app.act limit bound (after_task app.act task state))) whole
            (to_other_bound basis bound task is limit state.cells (without task.key state.pending) beside);
      }
