use Rattle.std.proofs.Common.{sym, ◌∙◌, arith}
use Rattle.worker_gate.proofs.Joining.{joins}
use Rattle.worker_gate.proofs.Seats.{same_hall, same_id, same_view}
use Rattle.worker_gate.proofs.hall.HallOf+Engine+A+A+Val+Kept.join.Goals as goal

pub join_seat-requires : goal.join_seat-requires
join_seat-requires g c =
    let view = same_view c.seat.view_is in
    let other_view = same_view c.other.view_is in
    let words = c.self.invariant.0 in (
      same_hall c.seat.view_is ∙ c.requires.here ∙ sym (same_id c.self.view_is),
      same_hall c.other.view_is ∙ c.requires.other_here ∙ sym (same_id c.self.view_is),
      c.other.invariant.0,
      omega (arith, words),
      joins c.continuing_laws.ensures.same c.self.inside.table.shared.key.value c.seat.inside.chair.id c.other.inside.chair.id
          c.seat.inside.chair.me.0 c.other.inside.chair.me.0 c.seat.invariant.2 c.other.invariant.2 c.seat.invariant.1 c.other.invariant.1
          (rw (view, other_view) c.requires.unjoined),
    )
