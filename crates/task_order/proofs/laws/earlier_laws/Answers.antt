use Rattle.task_order.specs.Key.{key_cmp_total}
use Rattle.task_order.proofs.KeyOrder.{earlier_connected, earlier_turned}
use Rattle.task_order.proofs.laws.earlier_laws.Goals as goal
use Rattle.task_order.specs.KeyLaws.{key_cmp-same, differ_from_earlier}

pub returns-clause-irreflexive : goal.returns-clause-irreflexive
returns-clause-irreflexive c = differ_from_earlier

pub returns-clause-transitive : goal.returns-clause-transitive
returns-clause-transitive c = key_cmp_total.trans

pub returns-clause-connected : goal.returns-clause-connected
returns-clause-connected c = earlier_connected

pub returns-clause-turned : goal.returns-clause-turned
returns-clause-turned c = earlier_turned

pub returns-clause-equal : goal.returns-clause-equal
returns-clause-equal c = key_cmp-same
