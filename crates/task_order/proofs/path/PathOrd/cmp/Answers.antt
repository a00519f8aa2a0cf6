use Rattle.std.proofs.Common.{◌∙◌}
use Rattle.task_order.proofs.PathCode.{numbers_of-tied, numbers_of-decided}
use Rattle.task_order.proofs.path.PathOrd.cmp.Goals as goal

pub returns-in-Equal : goal.returns-in-Equal
returns-in-Equal c =
    let self = c.self.inside in
    let other = c.other.inside in
    rw (← c.self.view_is, ← c.other.view_is)
    (c.cmp.ensures ∙ numbers_of-tied self.bytes self.zeros other.bytes other.zeros c.in-Some.order c.self.invariant.code c.other.invariant.code c.in-Some.ensures c.in-Equal.is)

pub returns-in_default-order : goal.returns-in_default-order
returns-in_default-order c =
    let self = c.self.inside in
    let other = c.other.inside in
    rw (← c.self.view_is, ← c.other.view_is)
    (numbers_of-decided self.bytes self.zeros other.bytes other.zeros c.in-Some.order c.self.invariant.code c.other.invariant.code c.in-Some.ensures c.in_default-order.not-Equal)
