-- A clear task, and an earlier one that acts first.
use Rattle.std.proofs.Common.{◌≡◌, cond, List, [], ◌∷◌, sym, ap, subst, ◌∙◌}
use Rattle.std.specs.List.{AllByRecursion}
use Rattle.std.specs.declared.cmp.Ordering.TheVariants.{Less}
use Rattle.std.specs.Ordering.{is_lt}
use Rattle.plain_laws.specs.Lists.{All-weaker}
use Rattle.task_order.specs.declared.task.Task.{Task}
use Rattle.task_order.specs.Key.{key_cmp, key_cmp_total}
use Rattle.task_order.specs.TaskList.{put_in, tasks_before}
use Rattle.rw_sets.specs.Accesses.{Conflicts}
use Rattle.output_log.specs.Entries.{Entry, with_entry}
use Rattle.app_laws.specs.Applications.{Application, set_in}
use Rattle.app_laws.specs.Execution.{Execution}
use Rattle.app_laws.specs.ApartLaws.{TasksApart, TasksApart-turned}
use Rattle.commuting.specs.States.{State, state_of, execution_from, entry_of}
use Rattle.commuting.specs.Clear.{IsUnblocked}
use Rattle.commuting.specs.Commuting.{IsSameButLogsMore}
use Rattle.commuting.specs.Basis.{Basis}
use Rattle.commuting.proofs.Cells.{same_entry, aside_turned}
use Rattle.commuting.proofs.Ends.{entry_behind}
use Rattle.commuting.proofs.Pending.{put_all-behind}
use Rattle.commuting.proofs.Runs.{with_front, turn}
use Rattle.commuting.proofs.StaysClear.{stays_unblocked}
use Rattle.commuting.proofs.Turns.{IsBeside, AreIndependentBeside, aside_here, beside_rest, children_of, children_later, children_new, beside_turn}

module _ {V : Type 0} (app : Application V) where
  -- a task, clear beside these others
  pub record IsClearBeside (task : Task) (others : State V) : Type 0 where
    pub beside : IsBeside app task others
    pub unblocked : IsUnblocked app (set_in app others.cells) others.pending task

  -- a task that is clear behind the first of these
  pub record IsBehind (cells : List V) (first task : Task) (others : List Task) : Type 0 where
    pub clear : IsClearBeside task (state_of cells (first ∷ others))
    pub earlier : key_cmp first.key task.key ≡ Less

module _ {V : Type 0} {app : Application V} (basis : Basis app) where
  -- where the first of the others is earlier than the clear task
  module _ {cells : List V} {first task : Task} {others : List Task} (behind : IsBehind app cells first task others) where
    abbrev pub rest : State V
    rest = state_of cells others

    -- what the first leaves, beside the task
    abbrev pub next : State V
    next = turn app.act first rest

    first_apart : TasksApart first task
    first_apart = TasksApart-turned task first behind.clear.beside.apart.0

    no_conflict : ¬ Conflicts (set_in app cells first) (set_in app cells task)
    no_conflict =
        let Free = λ (other : Task). ¬ Conflicts (set_in app cells other) (set_in app cells task) in
        (subst (λ past. AllByRecursion Free (cond past (first ∷ tasks_before task.key others) (tasks_before task.key others))) (ap is_lt behind.earlier) behind.clear.unblocked.apart).0

    pub independent : AreIndependentBeside app first task rest
    independent = record {
      task_beside = beside_rest basis cells first others behind.clear.beside.ready;
      other_beside = record {
        ready = (beside_rest basis cells first others behind.clear.beside.ready).ready;
        fit = behind.clear.beside.fit;
        apart = behind.clear.beside.apart.1;
      };
      paths_apart = first_apart;
      sets_apart = no_conflict;
    }

    pub next_clear : IsClearBeside app task next
    next_clear = record {
      beside = beside_turn basis first task rest independent.task_beside independent.other_beside first_apart;
      unblocked =
          stays_unblocked basis first task rest independent
          (subst (λ tasks. IsUnblocked app (set_in app cells) tasks task) (sym (basis.lower.earliest_first first others behind.clear.beside.ready.ascending.0)) behind.clear.unblocked);
    }

    pub first_then : execution_from (turn app.act first (state_of cells (put_in task others))) ≡ execution_from (state_of next.cells (put_in task next.pending))
    first_then =
        ap (λ tasks. execution_from (state_of next.cells tasks))
        (basis.lower.put_all_commutes task (children_of app cells first) others (children_new basis first cells task first_apart))

    pub task_then : turn app.act task (state_of cells (first ∷ others)) ≡ state_of (app.act task cells).cells (first ∷ (turn app.act task rest).pending)
    task_then =
        let later = All-weaker (λ child. key_cmp task.key child.key ≡ Less) (λ child. key_cmp first.key child.key ≡ Less)
        (λ child after. key_cmp_total.trans first.key task.key child.key behind.earlier after)
        (children_of app cells task) (children_later basis task cells behind.clear.beside.ready.cells behind.clear.beside.fit) in
        ap (λ tasks. state_of (app.act task cells).cells tasks) (put_all-behind first (children_of app cells task) others later)

    -- the task's entry is the same after the first, and the first's after the task
    pub same_task_entry : entry_of app.act next.cells task ≡ entry_of app.act cells task
    same_task_entry = same_entry basis cells first task (aside_here basis first task rest independent)

    pub same_first_entry : entry_of app.act (app.act task cells).cells first ≡ entry_of app.act cells first
    same_first_entry = same_entry basis cells task first (aside_turned basis cells first task (aside_here basis first task rest independent))

    pub entry_goes_behind : (e other : Execution V) → IsSameButLogsMore (entry_of app.act next.cells task ∷ []) e other
        → IsSameButLogsMore (entry_of app.act cells task ∷ []) (with_front (entry_of app.act cells first ∷ []) e) (with_front (entry_of app.act cells first ∷ []) other)
    entry_goes_behind e other more = record {
      cells-are = more.cells-are;
      pending-are = more.pending-are;
      log-is =
          ap (λ log. entry_of app.act cells first ∷ log) (more.log-is ∙ ap (λ (entry : Entry). with_entry entry.0 entry.1 other.log) same_task_entry)
          ∙ sym (entry_behind task.key (app.act task cells).text (entry_of app.act cells first) other.log behind.earlier);
    }
