use Rattle.std.proofs.Common.{◌≤◌, length}
use Rattle.task_order.specs.TaskList.{tasks_before}
use Rattle.task_order.proofs.block.Block.place_by_prio.Given as goal

-- no task from the place on is earlier
abbrev pub invariant-loop-place : goal.invariant-loop-place
invariant-loop-place l = (length (tasks_before l.key l.self) ≤ l.place) × (l.place ≤ l.end)

abbrev pub decreases-loop-place : goal.decreases-loop-place
decreases-loop-place l = l.place
