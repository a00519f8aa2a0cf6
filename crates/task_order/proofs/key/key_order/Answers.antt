use Rattle.task_order.specs.Key.{key_cmp_total}
use Rattle.task_order.proofs.KeyOrder.{key_cmp-exact, children_come_later, children_come_in_turn}
use Rattle.task_order.proofs.key.key_order.Goals as goal

pub returns-clause-total : goal.returns-clause-total
returns-clause-total c = key_cmp_total

pub returns-clause-exact : goal.returns-clause-exact
returns-clause-exact c = key_cmp-exact

pub returns-clause-child_later : goal.returns-clause-child_later
returns-clause-child_later c = children_come_later

pub returns-clause-children_in_turn : goal.returns-clause-children_in_turn
returns-clause-children_in_turn c = children_come_in_turn
