use Rattle.std.proofs.Common.{◌-◌, ◌≤◌, length}
use Rattle.task_order.proofs.block.end_in.Given as goal

abbrev pub invariant-loop-end : goal.invariant-loop-end
invariant-loop-end l = l.end ≤ length l.tasks

abbrev pub decreases-loop-end : goal.decreases-loop-end
decreases-loop-end l = length l.tasks - l.end

abbrev pub invariant-loop-end-2 : goal.invariant-loop-end-2
invariant-loop-end-2 l = l.end ≤ length l.tasks

abbrev pub decreases-loop-end-2 : goal.decreases-loop-end-2
decreases-loop-end-2 l = length l.tasks - l.end
