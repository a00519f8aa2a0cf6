use Rattle.logic_sim.specs.Horizon.{IsFalling, Tells, work_left}
use Rattle.logic_sim.proofs.circuit.Circuit.settle_anew.Given as goal

-- no time is before what the others make it
abbrev pub invariant-falling : goal.invariant-falling
invariant-falling g l = record {
  told : Tells l.self l.horizon (g.P.PendingTasks.tasks l.pending);
  falling : IsFalling l.self l.horizon.near.items (g.P.PendingTasks.tasks l.pending);
}

abbrev pub decreases-falling : goal.decreases-falling
decreases-falling g l = work_left l.horizon.near.items l.horizon.stale
