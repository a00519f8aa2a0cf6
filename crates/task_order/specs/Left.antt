-- The tasks that an iterator has left.
use Rattle.std.specs.Prelude.{List, [], Some, None}
use Rattle.std.specs.VecDeque.Iter.{deque_iter_rest}
use Rattle.std.specs.declared.option.Option.{Option}
use Rattle.std.specs.declared.collections.vec_deque.Iter.{Iter}
use Rattle.task_order.specs.declared.task.Task.{Task}

-- those of the block that it is in, if it is in one
abbrev pub tasks_left : Option (Iter Task) → List Task
tasks_left None = []
tasks_left (Some tasks) = deque_iter_rest tasks
