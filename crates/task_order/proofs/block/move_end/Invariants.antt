use Rattle.std.proofs.Common.{◌≡◌, ◌≤◌, ◌++◌, length}
use Rattle.std.specs.VecDeque.{deque_len, deque_capacity}
use Rattle.task_order.proofs.block.move_end.Given as goal

-- both together hold the tasks in order
abbrev pub invariant-loop-tasks : goal.invariant-loop-tasks
invariant-loop-tasks l = record {
  together : l.tasks.items ++ l.end.items ≡ l.fn.tasks.items;
  kept : l.place ≤ length l.tasks.items;
  capacity : deque_capacity l.tasks ≡ deque_capacity l.fn.tasks;
  end_capacity : deque_capacity l.end ≡ deque_capacity l.fn.end;
}

abbrev pub decreases-loop-tasks : goal.decreases-loop-tasks
decreases-loop-tasks l = deque_len l.tasks
