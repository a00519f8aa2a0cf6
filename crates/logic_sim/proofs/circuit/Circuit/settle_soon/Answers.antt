use Rattle.std.proofs.Common.{refl}
use Rattle.logic_sim.proofs.circuit.Circuit.settle_soon.Goals as goal

pub returns-then-not-settle_next-clause-settled : goal.returns-then-not-settle_next-clause-settled
returns-then-not-settle_next-clause-settled g c = λ told. c.if-not-settle_next.ensures.settled refl
