use Rattle.std.proofs.Common.{refl, sym, ap, subst, ◌∙◌}
use Rattle.std.proofs.lemmas.List.{drop_all}
use Rattle.task_order.specs.declared.task.Task.{Task}
use Rattle.task_order.specs.Key.{child_key}
use Rattle.task_order.specs.TaskList.{put_all, put_in}
use Rattle.app_laws.specs.Applications.{starts_of}
use Rattle.app_laws.specs.Execution.{children_from}
use Rattle.list_rounds.proofs.Touched.{one_more_put}
use Rattle.list_rounds.proofs.acting.touch_children.Goals as goal

pub loop-child-preserved : goal.loop-child-preserved
loop-child-preserved g c parent tasks told =
    let so_far = c.loop-child.invariant parent tasks told in
    let task : Task = record { key = child_key parent c.loop-child.child-index c.child-item.result.prio; body = c.child-item.result.body } in (
      put_in task so_far.0,
      c.touch.ensures.came task so_far.0 refl so_far.1,
      one_more_put c.args.children.now c.loop-child.child-index c.child-item.result c.loop-child-test.true c.child-item.is parent so_far.0 ∙ so_far.2,
    )

pub returns : goal.returns
returns g c parent tasks told =
    let so_far = c.loop-child.invariant parent tasks told in
    subst (g.A.App.tells c.args.app.now c.loop-child.horizon)
    (sym (ap (λ more. put_all (children_from parent c.loop-child.child-index (starts_of more)) so_far.0) (drop_all c.loop-child.child-index c.args.children.now c.loop-child-test.false)) ∙ so_far.2) so_far.1
