use Rattle.std.proofs.Common.{◌≡◌, ◌+◌, length, take}
use Rattle.task_order.specs.Blocks.{tasks_in}
use Rattle.task_order.proofs.blocks.Blocks.rank.Given as goal

-- the place, and all tasks of the blocks before
abbrev pub invariant-loop-i : goal.invariant-loop-i
invariant-loop-i l = l.rank ≡ l.place + length (tasks_in (take l.i l.self))
