use Rattle.std.proofs.Common.{◌≡◌, map}
use Rattle.std.specs.Map.Iter.{deref}
use Rattle.task_order.specs.declared.task.Task.{Task}
use Rattle.resting_rounds.proofs.waiting.copies.Given as goal

abbrev pub invariant-loop-task : goal.invariant-loop-task
invariant-loop-task l = l.tasks.items ≡ map (deref {X = Task}) l.yielded
