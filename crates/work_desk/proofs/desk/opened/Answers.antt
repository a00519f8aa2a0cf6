use Rattle.std.proofs.Common.{ap, ◌∙◌, arith}
use Rattle.work_desk.specs.Desk.{Seat}
use Rattle.work_desk.proofs.Seated.{opens_here, splits_here}
use Rattle.work_desk.proofs.desk.opened.Goals as goal

pub load-requires : goal.load-requires
load-requires g c =
    let board = c.args.table.shared in
    let words = c.requires.counts.0 in (
      c.requires.here,
      omega (arith, words),
      opens_here g.D.Deed.may g.D.Deed.done board.key board.table_id.slots c.args.seat.id c.args.seat.me board.key c.requires.shut,
    )

pub split_seat-other-requires : goal.split_seat-other-requires
split_seat-other-requires g c =
    let board = c.args.table.shared in
    let words = c.requires.counts.0 in (
      c.load.ensures.0 ∙ c.requires.here,
      omega (arith, words),
      splits_here g.D.Deed.may g.D.Deed.done board.key board.table_id.slots c.load.new.seat.id c.load.new.seat.me c.args.seat.me.0.key
          (ap (λ (me : Seat g.row.T.Denot g.row.K.Denot). me.0) c.load.ensures.2),
    )
