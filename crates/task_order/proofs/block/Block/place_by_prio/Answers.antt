use Rattle.std.proofs.Common.{arith}
use Rattle.task_order.proofs.Priorities.{end_bounds}
use Rattle.task_order.proofs.block.Block.place_by_prio.Goals as goal

pub loop-place-init : goal.loop-place-init
loop-place-init c = (end_bounds c.args.key.now c.args.self.now c.up_to-end.result c.requires c.up_to-end.ensures, omega arith)
