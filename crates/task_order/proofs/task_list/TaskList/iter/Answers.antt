use Rattle.std.proofs.Common.{ap, length}
use Rattle.std.specs.Map.Iter.{TakesFirst, deref}
use Rattle.std.proofs.iter.runs.Sources.{from_front}
use Rattle.task_order.specs.declared.task.Task.{Task}
use Rattle.task_order.proofs.task_list.TaskList.iter.Goals as goal

pub returns-clause-runs : goal.returns-clause-runs
returns-clause-runs c = from_front (TakesFirst (deref {X = Task})) (deref {X = Task}) (λ s. s) (λ s t h. ap length h.0) (λ s x t h. h)
