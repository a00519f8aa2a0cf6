use Rattle.std.proofs.Common.{arith}
use Rattle.task_order.proofs.Counts.{count_within_list}
use Rattle.task_order.proofs.block.Block.place_near.Goals as goal

pub overflow_add-place : goal.overflow_add-place
overflow_add-place c =
    omega (arith, c.is_earlier_at-in-loop-start.ensures.counted.0 c.loop-start-test.true, c.is_earlier_at-in-loop-start.ensures.small, count_within_list c.args.key.now c.args.self.now)
