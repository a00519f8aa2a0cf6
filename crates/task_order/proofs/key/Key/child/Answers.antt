use Rattle.task_order.proofs.KeyOrder.{children_come_later}
use Rattle.task_order.proofs.key.Key.child.Goals as goal

pub returns-clause-later : goal.returns-clause-later
returns-clause-later c = rw c.in_ok-child.ensures (children_come_later c.args.self.now c.args.number c.args.prio c.requires)
