use Rattle.std.proofs.Common.{Some, sym, ap, subst}
use Rattle.free_pool.specs.Streams.{IsStreamEnd}
use Rattle.free_pool.proofs.Flows.{text_end}
use Rattle.free_pool.proofs.free.run_free.Goals as goal

pub returns-in-Ended-default-default-false-clause-end : goal.returns-in-Ended-default-default-false-clause-end
returns-in-Ended-default-default-false-clause-end g c =
    let arm = c.in-Ended-default-default-false in
    let app = g.A.App.meaning c.args.engine.app in
    let start = c.args.engine.progress in
    let ended = subst (IsStreamEnd app start _ arm.finals arm.rounds) arm.failed-test arm.ensures.flow in
    text_end app start _ c.into_text.result arm.finals arm.rounds (ap Some c.new-sink.ensures.text) (ap Some (sym c.into_text.ensures)) ended
