use Rattle.std.proofs.Common.{sym, ◌∙◌, arith}
use Rattle.work_desk.proofs.Seated.{closes_here, same_desk}
use Rattle.work_desk.proofs.desk.Desk.close.Goals as goal

pub store-requires : goal.store-requires
store-requires g c =
    let board = c.self.inside.table.shared in
    let words = c.self.invariant.0 in (
      same_desk c.giver.view_is ∙ c.requires.here ∙ sym (same_desk c.self.view_is),
      omega (arith, words),
      closes_here g.D.Deed.may g.D.Deed.done board.key board.table_id.slots c.giver.inside.seat.id c.giver.inside.seat.me c.giver.inside.seat.me.0.key c.giver.invariant,
    )
