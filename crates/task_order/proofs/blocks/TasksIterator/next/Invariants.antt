use Rattle.std.proofs.Common.{◌≡◌, ◌++◌, length}
use Rattle.std.specs.VecDeque.Iter.{deque_iter_rest}
use Rattle.task_order.specs.Blocks.{tasks_in}
use Rattle.task_order.specs.Left.{tasks_left}
use Rattle.task_order.proofs.blocks.TasksIterator.next.Given as goal

-- as many tasks are left as at first
abbrev pub invariant-loop-self : goal.invariant-loop-self
invariant-loop-self l = tasks_left l.self-inside.tasks ++ tasks_in (deque_iter_rest l.self-inside.blocks) ≡ l.fn.self

-- one block fewer
abbrev pub decreases-loop-self : goal.decreases-loop-self
decreases-loop-self l = length (deque_iter_rest l.self-inside.blocks)
