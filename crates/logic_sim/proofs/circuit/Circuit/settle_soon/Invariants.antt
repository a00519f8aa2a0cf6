use Rattle.logic_sim.specs.Horizon.{Tells}
use Rattle.logic_sim.proofs.circuit.Circuit.settle_soon.Given as goal

abbrev pub invariant-loop : goal.invariant-loop
invariant-loop g l = Tells l.self l.horizon (g.P.PendingTasks.tasks l.pending)
