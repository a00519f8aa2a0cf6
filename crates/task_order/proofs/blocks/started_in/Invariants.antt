use Rattle.std.proofs.Common.{◌-◌, ◌≤◌, length}
use Rattle.task_order.proofs.blocks.started_in.Given as goal

abbrev pub invariant-loop-stride : goal.invariant-loop-stride
invariant-loop-stride l = l.count ≤ length l.blocks

abbrev pub decreases-loop-stride : goal.decreases-loop-stride
decreases-loop-stride l = l.stride

abbrev pub invariant-loop-count : goal.invariant-loop-count
invariant-loop-count l = l.count ≤ length l.blocks

abbrev pub decreases-loop-count : goal.decreases-loop-count
decreases-loop-count l = length l.blocks - l.count

abbrev pub invariant-loop-count-2 : goal.invariant-loop-count-2
invariant-loop-count-2 l = l.count ≤ length l.blocks

abbrev pub decreases-loop-count-2 : goal.decreases-loop-count-2
decreases-loop-count-2 l = length l.blocks - l.count
