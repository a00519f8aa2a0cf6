use Rattle.std.proofs.Common.{◌≡◌, List, [], length, refl, sym, ap, ◌∙◌, subst, arith}
use Rattle.plain_laws.specs.Options.{where_none}
use Rattle.plain_laws.specs.Lists.{all_taken}
use Rattle.task_order.specs.declared.start.Start.{Start}
use Rattle.task_order.specs.declared.task.Task.{Task}
use Rattle.task_order.specs.TaskList.{put_all}
use Rattle.app_laws.specs.Execution.{first_from}
use Rattle.app_laws.specs.Names.{AreListed}
use Rattle.app_laws.specs.Order.{AreApart, Pairwise}
use Rattle.app_laws.specs.RenamingLaws.{as_many_listed}
use Rattle.list_rounds.proofs.renaming.renumbered.Goals as goal

pub starts_by_path-requires : goal.starts_by_path-requires
starts_by_path-requires g c =
    let none = where_none c.take_first.result (c.loop-task.pending ≡ []) c.in_default.not-Some c.take_first.ensures.empty in
    subst (λ (tasks : List Task). Pairwise (λ task other. AreApart task.key.path other.key.path) tasks) (sym (all_taken c.loop-task.tasks.items c.loop-task.pending c.args.parts.pending none c.loop-task.invariant)) c.requires.apart

pub first_tasks-requires : goal.first_tasks-requires
first_tasks-requires g c =
    let none = where_none c.take_first.result (c.loop-task.pending ≡ []) c.in_default.not-Some c.take_first.ensures.empty in
    let all = all_taken c.loop-task.tasks.items c.loop-task.pending c.args.parts.pending none c.loop-task.invariant in
    record {
      few = omega (arith, ap length c.deref.ensures.value, as_many_listed c.loop-task.tasks.items c.in_ok-first.first.items c.in_ok-first.ensures, ap length all, c.requires.few);
    }

pub returns : goal.returns
returns g c =
    let none = where_none c.take_first.result (c.loop-task.pending ≡ []) c.in_default.not-Some c.take_first.ensures.empty in
    let all = all_taken c.loop-task.tasks.items c.loop-task.pending c.args.parts.pending none c.loop-task.invariant in
    let first = c.in_ok-first.first.items in
    record {
      store = refl;
      text = refl;
      ended = refl;
      log = c.new.ensures;
      first = first;
      listed = subst (λ (tasks : List Task). AreListed tasks first) all c.in_ok-first.ensures;
      pending = c.in_ok-named.ensures.tasks ∙ ap (λ (starts : List Start). put_all (first_from 0 starts) []) c.deref.ensures.value;
    }
