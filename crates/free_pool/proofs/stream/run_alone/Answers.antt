use Rattle.outer_edge.specs.Transfers.{transfer_of}
use Rattle.free_pool.proofs.Flows.{uncounted_end, uncounted_over}
use Rattle.free_pool.proofs.stream.run_alone.Goals as goal

pub returns-in-Ended-clause-flow : goal.returns-in-Ended-clause-flow
returns-in-Ended-clause-flow g c =
    uncounted_end (g.A.App.meaning c.args.engine.app) c.args.engine.progress (transfer_of g.K.Sink.contents g.K.Sink.faults c.args.out.now c.rounds_to.new.out) c.in-Ended.finals _ c.in-Ended.failed c.in-Ended.ensures.flow

pub returns-in-Budget-clause-flow : goal.returns-in-Budget-clause-flow
returns-in-Budget-clause-flow g c =
    uncounted_over (g.A.App.meaning c.args.engine.app) c.args.engine.progress (transfer_of g.K.Sink.contents g.K.Sink.faults c.args.out.now c.rounds_to.new.out) c.in-Budget.created c.in-Budget.limit c.in-Budget.failed c.in-Budget.ensures.flow
