use Rattle.std.proofs.Common.{◌-◌, ◌≤◌, length}
use Rattle.task_order.specs.TaskList.{tasks_before}
use Rattle.task_order.proofs.block.Block.rank.Given as goal

-- the tasks before the place are earlier
abbrev pub invariant-loop-place : goal.invariant-loop-place
invariant-loop-place l = l.place ≤ length (tasks_before l.key l.self)

abbrev pub decreases-loop-place : goal.decreases-loop-place
decreases-loop-place l = length (tasks_before l.key l.self) - l.place

-- the tasks before the place are earlier
abbrev pub invariant-loop-place-2 : goal.invariant-loop-place-2
invariant-loop-place-2 l = l.place ≤ length (tasks_before l.key l.self)

abbrev pub decreases-loop-place-2 : goal.decreases-loop-place-2
decreases-loop-place-2 l = length (tasks_before l.key l.self) - l.place
