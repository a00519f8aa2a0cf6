use Rattle.std.proofs.Common.{◌-◌, ◌≤◌, length}
use Rattle.task_order.specs.TaskList.{tasks_before}
use Rattle.task_order.proofs.block.Block.place_near.Given as goal

-- the tasks before the place are earlier
abbrev pub invariant-loop-start : goal.invariant-loop-start
invariant-loop-start l = (l.start ≤ l.place) × (l.place ≤ length (tasks_before l.key l.self))

abbrev pub decreases-loop-start : goal.decreases-loop-start
decreases-loop-start l = length (tasks_before l.key l.self) - l.place
