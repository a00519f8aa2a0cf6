use denote.Param.Send.{sendable}
use Rattle.std.proofs.Crossing.{crosses}
use Rattle.worker_gate.proofs.hall.HallOf.TheSendSync as hall_of
use Rattle.worker_gate.proofs.hall.SeatOf.TheSendSync as seat_of
use Rattle.worker_gate.proofs.post.post_sends.Goals as goal

pub returns : goal.returns
returns g c h a = search (sendable, crosses, seat_of.the_send, hall_of.the_sync, c.engine_sends.ensures) depth 40
