use Rattle.std.proofs.Common.{◌∙◌, ap, arith}
use Rattle.task_order.specs.TaskList.{put_in}
use Rattle.task_order.proofs.Found.{blocks_after_insert}
use Rattle.task_order.proofs.task_list.TaskList.insert.Goals as goal

pub invariant_of-self-2 : goal.invariant_of-self-2
invariant_of-self-2 c =
    blocks_after_insert c.args.task c.self.inside.blocks c.put.new.self c.self.inside.len c.self.invariant (rw c.self.view_is c.requires)
    (c.put.ensures.tasks ∙ ap (put_in c.args.task) c.in-Ok.ensures.tasks) c.put.ensures.gapless (omega (arith, c.if-self-ge-MOST.false))
