use denote.Param.Send.{sendable}
use Rattle.std.proofs.Crossing.{crosses}
use Rattle.worker_gate.proofs.hall.SeatOf.TheSendSync as seat_of
use Rattle.worker_gate.proofs.sends.seat_sends.Goals as goal

pub returns : goal.returns
returns g c ℓ = search (sendable, crosses, seat_of.the_send, c.engine_sends.ensures) depth 40
