use Rattle.std.proofs.Common.{◌≡◌, take}
use Rattle.std.specs.Prelude.{None}
use Rattle.std.specs.List.{AllByRecursion}
use Rattle.resting_rounds.specs.Waiting.{tasks_of}
use Rattle.resting_rounds.proofs.waiting.all_awake.Given as goal

abbrev pub invariant-loop-task : goal.invariant-loop-task
invariant-loop-task l = record {
  tasks : tasks_of l.waiting.items ≡ take l.task-index l.tasks;
  awake : AllByRecursion (λ one. one.watched ≡ None) l.waiting.items;
}
