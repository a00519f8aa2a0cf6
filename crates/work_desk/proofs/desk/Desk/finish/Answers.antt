use Rattle.std.proofs.Common.{Some, sym, subst, ◌∙◌, arith}
use Rattle.work_desk.specs.Seats.{BusyState}
use Rattle.work_desk.proofs.Seated.{finishes_here, put_in, same_desk, same_place}
use Rattle.work_desk.proofs.desk.Desk.finish.Goals as goal

pub store-requires : goal.store-requires
store-requires g c =
    let board = c.self.inside.table.shared in
    let words = c.self.invariant.0 in
    let own = c.task.inside.seat.me.0.key in (
      c.exchange-none.ensures.0 ∙ same_place c.task.view_is ∙ c.requires.here ∙ sym (same_desk c.self.view_is),
      omega (arith, words),
      finishes_here g.D.Deed.may g.D.Deed.done board.key board.table_id.slots c.exchange-none.new.seat.id c.exchange-none.new.seat.me own c.task.inside.given.value c.args.y
          (put_in c.task.invariant (Some c.args.y) c.exchange-none.new.seat.me c.exchange-none.ensures.3)
          (subst (λ (task : BusyState g.row.T.Denot g.row.K.Denot). g.D.Deed.done task.key task.given c.args.y) (sym c.task.view_is) c.requires.done),
    )
