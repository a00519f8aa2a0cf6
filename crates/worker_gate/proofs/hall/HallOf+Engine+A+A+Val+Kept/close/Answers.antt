use Rattle.std.proofs.Common.{refl}
use Rattle.std.specs.Mem.Slots.{slots_items}
use Rattle.worker_gate.proofs.Closing.{engine_fits, taken_out}
use Rattle.worker_gate.proofs.Seats.{same_origin, same_view}
use Rattle.worker_gate.proofs.hall.HallOf+Engine+A+A+Val+Kept.close.Goals as goal

pub held-requires : goal.held-requires
held-requires g c =
    let view = same_view c.seat.view_is in
    let closed = c.close_with-closed.result in
    let out = taken_out c.self.inside.table.shared.key.value c.seat.inside.chair.id c.seat.inside.chair.me.0 c.seat.invariant.2 c.seat.invariant.1 (rw view c.requires.first) (rw view c.requires.alone)
    (slots_items closed.words) (slots_items closed.slots) c.take-slot.result c.close_with-closed.ensures.values.2 c.take-slot.ensures.value in
    rw out.1 refl

pub returns : goal.returns
returns g c =
    let view = same_view c.seat.view_is in
    let closed = c.close_with-closed.result in
    engine_fits c.self.inside.table.shared.key.value c.seat.inside.chair.id c.seat.inside.chair.me.0 c.seat.invariant.2 c.seat.invariant.1 (rw view c.requires.first) (rw view c.requires.alone)
    (slots_items closed.words) (slots_items closed.slots) c.take-slot.result c.held.result c.into_inner.result c.args.self.origin c.args.seat.view
    c.close_with-closed.ensures.values.2 c.take-slot.ensures.value c.held.ensures c.into_inner.ensures (same_origin c.self.view_is) view
