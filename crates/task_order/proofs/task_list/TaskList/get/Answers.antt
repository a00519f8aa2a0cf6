use Rattle.task_order.specs.TaskList.{IsNewKey}
use Rattle.task_order.proofs.Found.{got_the_task, got_some}
use Rattle.task_order.proofs.task_list.TaskList.get.Goals as goal

pub returns-clause-found : goal.returns-clause-found
returns-clause-found c = rw (← c.self.view_is) (got_the_task c.args.key.now c.self.inside.blocks c.in_ok-at.at c.in_ok-at.place c.get.result c.in_ok-at.ensures.found c.get.ensures)

pub returns-clause-absent : goal.returns-clause-absent
returns-clause-absent c = got_some (IsNewKey c.args.key.now c.args.self.now) c.args.key.now c.self.inside.blocks c.in_ok-at.at c.in_ok-at.place c.get.result c.in_ok-at.ensures.found c.get.ensures
