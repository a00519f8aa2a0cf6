use Rattle.std.proofs.Common.{◌≡◌, List, [], length, sym, ap, ◌∙◌, subst, arith}
use Rattle.std.proofs.lemmas.Result.{IfOk-weaker}
use Rattle.plain_laws.specs.Options.{where_none}
use Rattle.plain_laws.specs.Lists.{all_taken}
use Rattle.task_order.specs.declared.start.Start.{Start}
use Rattle.task_order.specs.declared.task.Task.{Task}
use Rattle.task_order.specs.TaskList.{put_all}
use Rattle.app_laws.specs.Execution.{first_from}
use Rattle.app_laws.specs.Names.{AreListed}
use Rattle.app_laws.specs.Order.{Pairwise}
use Rattle.app_laws.specs.RenamingLaws.{as_many_listed}
use Rattle.app_laws.specs.Renumbering.{AreRenumbered}
use Rattle.app_laws.proofs.serial_run.renamed.Goals as goal
use Rattle.app_laws.specs.ApartLaws.{TasksApart}

pub starts_by_path-requires : goal.starts_by_path-requires
starts_by_path-requires c =
    let none = where_none c.take_first.result (c.loop-task.pending ≡ []) c.in_default.not-Some c.take_first.ensures.empty in
    subst (λ (tasks : List Task). Pairwise TasksApart tasks) (sym (all_taken c.loop-task.tasks.items c.loop-task.pending c.args.pending none c.loop-task.invariant)) c.requires.apart

pub first_tasks-requires : goal.first_tasks-requires
first_tasks-requires c =
    let none = where_none c.take_first.result (c.loop-task.pending ≡ []) c.in_default.not-Some c.take_first.ensures.empty in
    let all = all_taken c.loop-task.tasks.items c.loop-task.pending c.args.pending none c.loop-task.invariant in
    record {
      few = omega (arith, ap length c.deref.ensures.value, as_many_listed c.loop-task.tasks.items c.in_ok-first.first.items c.in_ok-first.ensures, ap length all, c.requires.few);
    }

pub returns : goal.returns
returns c =
    let none = where_none c.take_first.result (c.loop-task.pending ≡ []) c.in_default.not-Some c.take_first.ensures.empty in
    let all = all_taken c.loop-task.tasks.items c.loop-task.pending c.args.pending none c.loop-task.invariant in
    let first = c.in_ok-first.first.items in
    let listed = subst (λ (tasks : List Task). AreListed tasks first) all c.in_ok-first.ensures in
    IfOk-weaker c.first_tasks.result (λ tasks. tasks ≡ put_all (first_from 0 c.deref.result.now) []) (AreRenumbered c.args.pending)
    (λ tasks are. record {
      first = first;
      named = c.naming_laws.ensures c.args.pending first c.len.ensures.ascending c.requires.apart listed;
      are = are ∙ ap (λ (starts : List Start). put_all (first_from 0 starts) []) c.deref.ensures.value;
    })
    c.first_tasks.ensures.tasks
