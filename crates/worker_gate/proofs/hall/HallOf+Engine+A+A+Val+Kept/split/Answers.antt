use Rattle.std.proofs.Common.{sym, ◌∙◌, arith}
use Rattle.worker_gate.proofs.Seats.{same_hall, same_id, same_view}
use Rattle.worker_gate.proofs.Splitting.{splits}
use Rattle.worker_gate.proofs.hall.HallOf+Engine+A+A+Val+Kept.split.Goals as goal

pub split_seat-chair-requires : goal.split_seat-chair-requires
split_seat-chair-requires g c =
    let view = same_view c.seat.view_is in
    let words = c.self.invariant.0 in (
      same_hall c.seat.view_is ∙ c.requires.here ∙ sym (same_id c.self.view_is),
      omega (arith, words),
      splits c.self.inside.table.shared.key.value c.seat.inside.chair.id c.seat.inside.chair.me.0 c.seat.invariant.2
          (rw view c.requires.first) (rw view c.requires.few),
    )
