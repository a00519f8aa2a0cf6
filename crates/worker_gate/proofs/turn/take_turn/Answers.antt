use Rattle.std.proofs.Common.{sym, ◌∙◌, arith}
use Rattle.worker_gate.proofs.Seats.{same_id}
use Rattle.worker_gate.proofs.Taking.{may_take}
use Rattle.worker_gate.proofs.turn.take_turn.Goals as goal

pub compare_exchange-requires : goal.compare_exchange-requires
compare_exchange-requires g c =
    let words = c.hall.invariant.0 in (
      c.requires.here ∙ sym (same_id c.hall.view_is),
      omega (arith, words),
      may_take c.continuing_laws.ensures.same c.hall.inside.table.shared.key.value c.args.chair.now.id c.args.mine c.hall.inside.table.shared.table_id.slots c.hall.invariant.1
          c.args.chair.now.me c.requires.none c.requires.waits c.requires.lives c.requires.mine,
    )
