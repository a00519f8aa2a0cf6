use Rattle.worker_gate.specs.Turns.{IsTried}
use Rattle.worker_gate.proofs.turn.HallOf+Engine+A+A+Val+Kept.enter.Given as goal

abbrev pub invariant-loop : goal.invariant-loop
invariant-loop g l = IsTried l.fn.seat l.seat
