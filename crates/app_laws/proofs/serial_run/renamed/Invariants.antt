use Rattle.std.proofs.Common.{◌≡◌, ◌++◌, length}
use Rattle.app_laws.proofs.serial_run.renamed.Given as goal

abbrev pub invariant-loop-task : goal.invariant-loop-task
invariant-loop-task l = l.tasks.items ++ l.pending ≡ l.fn.pending

abbrev pub decreases-loop-task : goal.decreases-loop-task
decreases-loop-task l = length l.pending
