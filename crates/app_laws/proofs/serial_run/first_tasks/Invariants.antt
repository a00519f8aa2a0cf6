use Rattle.std.proofs.Common.{[], drop}
use Rattle.task_order.specs.TaskList.{put_all}
use Rattle.app_laws.specs.Execution.{first_from}
use Rattle.app_laws.proofs.Putting.{IsLeft}
use Rattle.app_laws.proofs.serial_run.first_tasks.Given as goal

abbrev pub invariant-loop-number : goal.invariant-loop-number
invariant-loop-number l = IsLeft (first_from l.number (drop l.number l.first)) l.pending (put_all (first_from 0 l.first) [])
