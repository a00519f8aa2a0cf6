use Rattle.std.proofs.Common.{drop}
use Rattle.task_order.specs.TaskList.{put_all}
use Rattle.app_laws.specs.Applications.{starts_of}
use Rattle.app_laws.specs.Execution.{children_from}
use Rattle.app_laws.proofs.Putting.{IsLeft}
use Rattle.app_laws.proofs.serial_run.put_children.Given as goal

abbrev pub invariant-loop-number : goal.invariant-loop-number
invariant-loop-number l =
    IsLeft (children_from l.parent l.number (drop l.number (starts_of l.children))) l.pending (put_all (children_from l.fn.parent 0 (starts_of l.fn.children)) l.fn.pending)
