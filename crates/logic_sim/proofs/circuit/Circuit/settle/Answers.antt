use Rattle.std.proofs.Common.{refl}
use Rattle.logic_sim.proofs.circuit.Circuit.settle.Goals as goal

pub returns-else-not-settle_soon-clause-settled : goal.returns-else-not-settle_soon-clause-settled
returns-else-not-settle_soon-clause-settled g c = c.if-not-settle_soon.ensures.settled refl
