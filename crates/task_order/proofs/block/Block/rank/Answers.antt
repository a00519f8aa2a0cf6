use Rattle.std.proofs.Common.{◌+◌, ◌≤◌, length, arith}
use Rattle.task_order.specs.TaskList.{tasks_before}
use Rattle.task_order.proofs.Counts.{count_within_list}
use Rattle.task_order.proofs.block.Block.rank.Goals as goal

pub overflow_add-place : goal.overflow_add-place
overflow_add-place c =
    omega (arith, c.is_earlier_at.ensures.counted.0 c.loop-place-test.true, c.saturating_add.ensures, c.is_earlier_at.ensures.small, count_within_list c.args.key.now c.args.self.now)

pub loop-place-preserved : goal.loop-place-preserved
loop-place-preserved c =
    let kept : c.loop-place.place + 8 ≤ length (tasks_before c.args.key.now c.args.self.now) =
    omega (arith, c.is_earlier_at.ensures.counted.0 c.loop-place-test.true, c.saturating_add.ensures, c.is_earlier_at.ensures.small, count_within_list c.args.key.now c.args.self.now) in
    kept
