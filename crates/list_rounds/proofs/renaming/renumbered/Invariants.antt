use Rattle.std.proofs.Common.{◌≡◌, ◌++◌, length}
use Rattle.list_rounds.proofs.renaming.renumbered.Given as goal

abbrev pub invariant-loop-task : goal.invariant-loop-task
invariant-loop-task g l = l.tasks.items ++ l.pending ≡ l.fn.parts.pending

abbrev pub decreases-loop-task : goal.decreases-loop-task
decreases-loop-task g l = length l.pending
