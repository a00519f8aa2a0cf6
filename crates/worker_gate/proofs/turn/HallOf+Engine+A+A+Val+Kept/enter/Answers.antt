use Rattle.std.proofs.Common.{refl}
use Rattle.worker_gate.proofs.Waiting.{tried_again}
use Rattle.worker_gate.proofs.turn.HallOf+Engine+A+A+Val+Kept.enter.Goals as goal

pub loop-init : goal.loop-init
loop-init g c = record { hall = refl; view = refl }

pub loop-preserved : goal.loop-preserved
loop-preserved g c = tried_again c.loop.invariant c.in-Busy.ensures
