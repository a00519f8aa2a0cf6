use Rattle.std.proofs.Common.{◌-◌, ◌≤◌}
use Rattle.task_order.proofs.blocks.longest_stride.Given as goal

abbrev pub invariant-loop-stride : goal.invariant-loop-stride
invariant-loop-stride l = 1 ≤ l.stride

abbrev pub decreases-loop-stride : goal.decreases-loop-stride
decreases-loop-stride l = l.most - l.stride
