use Rattle.std.proofs.Common.{◌+◌, ◌≤◌, length, arith}
use Rattle.task_order.proofs.blocks.started_in.Goals as goal

pub overflow_add-count : goal.overflow_add-count
overflow_add-count c = omega (arith, c.loop-count-test.ensures.inside, c.saturating_add.ensures, c.is_started_within_at.ensures.small)

pub loop-count-preserved : goal.loop-count-preserved
loop-count-preserved c =
    let inside : c.loop-count.count + c.loop-stride.stride ≤ length c.args.blocks.now = omega (arith, c.loop-count-test.ensures.inside, c.saturating_add.ensures, c.is_started_within_at.ensures.small, c.loop-stride-test.true) in
    inside

pub overflow_add-count-in-loop-count-2 : goal.overflow_add-count-in-loop-count-2
overflow_add-count-in-loop-count-2 c = omega (arith, c.loop-count-2-test.ensures.inside, c.is_started_within_at-in-loop-count-2.ensures.small)
