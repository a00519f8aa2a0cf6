use Rattle.std.proofs.Common.{Some, sym, ◌∙◌, arith}
use Rattle.work_desk.proofs.Seated.{lent, same_desk, takes_here}
use Rattle.work_desk.proofs.desk.Desk.try_take.Goals as goal

pub compare_exchange-found-requires : goal.compare_exchange-found-requires
compare_exchange-found-requires g c =
    let board = c.self.inside.table.shared in
    let words = c.self.invariant.0 in (
      same_desk c.worker.view_is ∙ c.requires.here ∙ sym (same_desk c.self.view_is),
      omega (arith, words),
      takes_here g.D.Deed.may g.D.Deed.done board.key board.table_id.slots c.worker.inside.seat.id c.worker.inside.seat.me c.worker.inside.seat.me.0.key c.worker.invariant,
    )

pub exchange-slot-requires : goal.exchange-slot-requires
exchange-slot-requires g c =
    let has = c.compare_exchange-found.ensures.2.has c.if-found-eq-LAID.true in (
      c.compare_exchange-found.ensures.0 ∙ same_desk c.worker.view_is ∙ c.requires.here ∙ sym (same_desk c.self.view_is),
      (Some has.x, lent has.is),
    )
