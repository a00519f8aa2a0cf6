use Rattle.std.proofs.Common.{◌+◌, ◌≤◌, length}
use Rattle.std.specs.List.{AllByRecursion}
use Rattle.std.specs.VecDeque.{deque_capacity, deque_len}
use Rattle.crew.specs.Jobs.{MayRun}
use Rattle.source_pool.proofs.PerformedInOrder.{AreDoneBefore}
use Rattle.source_pool.proofs.performing.perform_in_turn.Given as goal

abbrev pub invariant-loop-job : goal.invariant-loop-job
invariant-loop-job g l = record {
  may : AllByRecursion (MayRun (g.A.App.meaning l.app)) l.jobs.items;
  done : AreDoneBefore (g.A.App.meaning l.app) l.fn.jobs.items l.jobs.items l.dones.items;
  room : deque_len l.dones + deque_len l.jobs ≤ deque_capacity l.dones;
}

abbrev pub decreases-loop-job : goal.decreases-loop-job
decreases-loop-job g l = length l.jobs.items
