use Rattle.std.proofs.Common.{◌+◌, ◌∙◌, length, subst}
use Rattle.task_order.specs.Blocks.{IsEndOfPriority}
use Rattle.task_order.proofs.Priorities.{end_in_front, end_in_back}
use Rattle.task_order.proofs.block.Block.end_of_prio.Goals as goal

pub returns-then-is_within_at : goal.returns-then-is_within_at
returns-then-is_within_at c =
    let front = c.as_slices.result.0.now in
    subst (λ tasks. IsEndOfPriority c.args.prio tasks (length front + c.end_in.result)) (c.as_slices.ensures.items ∙ c.self.view_is)
    (end_in_back c.args.prio front c.as_slices.result.1.now c.end_in.result c.end_in.ensures)

pub returns-else-is_within_at : goal.returns-else-is_within_at
returns-else-is_within_at c =
    let end = c.end_in-else-is_within_at in
    subst (λ tasks. IsEndOfPriority c.args.prio tasks end.result) (c.as_slices.ensures.items ∙ c.self.view_is)
    (end_in_front c.args.prio c.as_slices.result.0.now c.as_slices.result.1.now end.result end.ensures c.if-is_within_at.ensures.above)
