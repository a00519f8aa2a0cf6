use Rattle.std.proofs.Common.{Some, sym, ap, ◌∙◌, arith}
use Rattle.work_desk.specs.Desk.{Seat}
use Rattle.work_desk.proofs.Seated.{collects_here, lent, revokes_here, same_desk, same_place}
use Rattle.work_desk.proofs.desk.Desk.collect.Goals as goal

pub compare_exchange-requires : goal.compare_exchange-requires
compare_exchange-requires g c =
    let board = c.self.inside.table.shared in
    let words = c.self.invariant.0 in (
      same_place c.ticket.view_is ∙ c.requires.here ∙ sym (same_desk c.self.view_is),
      omega (arith, words),
      collects_here g.D.Deed.may g.D.Deed.done board.key board.table_id.slots c.ticket.inside.seat.id c.ticket.inside.seat.me c.ticket.inside.seat.me.0.key c.ticket.inside.given.value
          c.ticket.invariant,
    )

pub exchange-slot-requires : goal.exchange-slot-requires
exchange-slot-requires g c =
    let has = c.compare_exchange.ensures.2.has c.if-compare_exchange-eq-FINISHED.true in (
      c.compare_exchange.ensures.0 ∙ same_place c.ticket.view_is ∙ c.requires.here ∙ sym (same_desk c.self.view_is),
      (Some has.y, lent has.is),
    )

pub compare_exchange-requires-2 : goal.compare_exchange-requires-2
compare_exchange-requires-2 g c =
    let board = c.self.inside.table.shared in
    let words = c.self.invariant.0 in
    let same = c.compare_exchange.ensures.2.none c.if-compare_exchange-eq-FINISHED.false in (
      c.compare_exchange.ensures.0 ∙ same_place c.ticket.view_is ∙ c.requires.here ∙ sym (same_desk c.self.view_is),
      omega (arith, words),
      revokes_here g.D.Deed.may g.D.Deed.done board.key board.table_id.slots c.compare_exchange.new.seat.id c.compare_exchange.new.seat.me c.ticket.inside.seat.me.0.key c.ticket.inside.given.value
          (same ∙ c.ticket.invariant),
    )

pub exchange-slot-requires-then-compare_exchange-eq-LAID : goal.exchange-slot-requires-then-compare_exchange-eq-LAID
exchange-slot-requires-then-compare_exchange-eq-LAID g c =
    let same = c.compare_exchange.ensures.2.none c.if-compare_exchange-eq-FINISHED.false in
    let back = c.compare_exchange-2.ensures.2.has c.if-compare_exchange-eq-LAID.true c.ticket.inside.given.value
    (ap (λ (me : Seat g.row.T.Denot g.row.K.Denot). me.0.part) (same ∙ c.ticket.invariant)) in (
      c.compare_exchange-2.ensures.0 ∙ c.compare_exchange.ensures.0 ∙ same_place c.ticket.view_is ∙ c.requires.here ∙ sym (same_desk c.self.view_is),
      (Some c.ticket.inside.given.value, lent back),
    )
