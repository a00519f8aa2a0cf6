use Rattle.task_order.specs.TaskList.{IsNewKey}
use Rattle.library_trials.proofs.tasks.is_new.Given as goal

-- the key is new among all where it is new among those that are left
abbrev pub invariant-loop-task : goal.invariant-loop-task
invariant-loop-task l = IsNewKey l.key l.task-iterator → IsNewKey l.key l.tasks
