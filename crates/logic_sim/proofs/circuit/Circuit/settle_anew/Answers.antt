use Rattle.std.proofs.Common.{refl}
use Rattle.logic_sim.proofs.circuit.Circuit.settle_anew.Goals as goal

pub returns-clause-settled : goal.returns-clause-settled
returns-clause-settled g c = c.falling-test.ensures.settled refl
