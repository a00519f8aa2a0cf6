use Rattle.std.proofs.Common.{Some, sym, subst, ◌∙◌, arith}
use Rattle.work_desk.proofs.Seated.{lays_here, put_in, same_desk, same_key}
use Rattle.work_desk.proofs.desk.Desk.give.Goals as goal

pub store-requires : goal.store-requires
store-requires g c =
    let board = c.self.inside.table.shared in
    let words = c.self.invariant.0 in
    let own = c.giver.inside.seat.me.0.key in (
      c.exchange-none.ensures.0 ∙ same_desk c.giver.view_is ∙ c.requires.here ∙ sym (same_desk c.self.view_is),
      omega (arith, words),
      lays_here g.D.Deed.may g.D.Deed.done board.key board.table_id.slots c.exchange-none.new.seat.id c.exchange-none.new.seat.me own c.args.x
          (put_in c.giver.invariant (Some c.args.x) c.exchange-none.new.seat.me c.exchange-none.ensures.3)
          (subst (λ k. g.D.Deed.may k c.args.x) (sym (same_key c.giver.view_is)) c.requires.may),
    )
