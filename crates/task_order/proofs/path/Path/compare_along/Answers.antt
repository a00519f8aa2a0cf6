use Rattle.task_order.proofs.PathCode.{slice_cmp-numbers_of}
use Rattle.task_order.proofs.path.Path.compare_along.Goals as goal

pub returns : goal.returns
returns c =
    let self = c.self.inside in
    let other = c.other.inside in
    rw (← c.self.view_is, ← c.other.view_is, slice_cmp-numbers_of self.bytes self.zeros other.bytes other.zeros c.self.invariant.code c.other.invariant.code, ← c.compare-order.ensures, ← c.cmp.ensures) c.then.ensures
