use Rattle.std.proofs.Common.{sym, ◌∙◌, arith}
use Rattle.worker_gate.proofs.Freeing.{has_left, left_is, may_free}
use Rattle.worker_gate.proofs.Seats.{may_leave_same}
use Rattle.worker_gate.proofs.turn.Lease+Engine+A+A+Val+Snapshot+Engine+A+Kept.leave.Goals as goal

pub store-requires : goal.store-requires
store-requires g c =
    let words = c.self.invariant.4 in
    let turn = c.self.inside in (
      c.put-none.ensures.here ∙ c.self.invariant.3,
      omega (arith, words),
      may_free c.continuing_laws.ensures.same c.continuing_laws.ensures.moves turn.board.now.key.value turn.chair.table_id c.put-none.new.chair.id turn.board.now.table_id.slots c.self.invariant.5
          turn.chair.me.0 turn.engine c.put-none.new.chair.me c.put-none.ensures.has c.self.invariant.2 c.self.invariant.1 g.P.Did.jobs g.P.Did.ended
          (may_leave_same g.A.App.meaning g.P.Did.jobs g.P.Did.ended (record { hall = turn.chair.table_id; view = turn.chair.me.0; engine = turn.engine.value }) c.args.self c.self.view_is c.requires),
    )

pub invariant_of-result : goal.invariant_of-result
invariant_of-result g c =
    let turn = c.self.inside in
    let left = left_is (has_left g.P.Did.jobs g.P.Did.ended turn.chair.me.0 turn.engine c.put-none.new.chair.me c.store.new.seat.me c.put-none.ensures.has c.self.invariant.1 c.store.ensures.2) in (
      left.0,
      left.1,
      (λ nothing. c.self.invariant.2 (sym left.2 ∙ nothing)),
      left.3 ∙ c.self.invariant.6,
      left.4 ∙ c.self.invariant.7,
    )
