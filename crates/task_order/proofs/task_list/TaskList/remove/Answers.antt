use Rattle.std.proofs.Common.{◌∙◌, ap, sym}
use Rattle.task_order.specs.Blocks.{tasks_in}
use Rattle.task_order.specs.TaskList.{without}
use Rattle.task_order.proofs.Found.{the_task, found_in_tasks, blocks_after_remove}
use Rattle.task_order.proofs.Without.{without_new_key}
use Rattle.task_order.proofs.task_list.TaskList.remove.Goals as goal

pub returns-in_err-at-clause-left : goal.returns-in_err-at-clause-left
returns-in_err-at-clause-left c = sym (without_new_key c.args.key.now c.args.self.now (rw (← c.self.view_is) c.in_err-at.ensures.absent))

pub invariant_of-self : goal.invariant_of-self
invariant_of-self c =
    blocks_after_remove c.remove-task.result c.self.inside.blocks c.remove-task.new.self c.self.inside.len c.self.invariant
    (found_in_tasks c.self.inside.blocks c.in_ok-at.at c.in_ok-at.place c.remove-task.result c.in_ok-at.ensures.found.inside c.in_ok-at.ensures.found.within c.remove-task.ensures.task)
    c.remove-task.ensures.left c.remove-task.ensures.gapless

pub returns-clause-left : goal.returns-clause-left
returns-clause-left c =
    c.remove-task.ensures.left
    ∙ ap (λ key. without key (tasks_in c.self.inside.blocks)) (c.in_ok-at.ensures.found.has c.remove-task.result c.remove-task.ensures.task)
    ∙ ap (without c.args.key.now) c.self.view_is

pub returns-clause-found : goal.returns-clause-found
returns-clause-found c =
    rw (← c.self.view_is) (the_task c.args.key.now c.self.inside.blocks c.in_ok-at.at c.in_ok-at.place c.remove-task.result c.in_ok-at.ensures.found c.remove-task.ensures.task)
