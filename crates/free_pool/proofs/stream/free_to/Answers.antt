use Rattle.std.proofs.Common.{subst}
use Rattle.outer_edge.specs.Transfers.{transfer_of}
use Rattle.graph_update.specs.Engine.{EngineState}
use Rattle.free_pool.specs.Streams.{IsFlow, IsFrontTold}
use Rattle.free_pool.proofs.Closing.{tellable_from, told_since, untold_at}
use Rattle.free_pool.proofs.Flows.{stream_front}
use Rattle.free_pool.proofs.stream.free_to.Goals as goal

pub work_together-seat-requires-clause-tellable : goal.work_together-seat-requires-clause-tellable
work_together-seat-requires-clause-tellable g c κs within =
    let progress = c.args.engine.progress in
    let kept = c.graph-graph.ensures.kept in
    let sound = c.rest_laws.ensures.idle c.args.engine.app progress kept.jobs kept.values kept.sound c.requires.at_rest in
    tellable_from g.A.App.meaning c.args.engine c.in-Ok.hall c.in-Ok.ensures.hall sound

pub work_together-seat-requires-clause-told : goal.work_together-seat-requires-clause-told
work_together-seat-requires-clause-told g c κs within = untold_at g.A.App.meaning c.args.engine c.in-Ok.hall c.in-Ok.seat c.in-Ok.ensures.hall c.in-Ok.ensures.seat c.new-outlet.result.told c.new-outlet.ensures.told

pub end_flow-requires-clause-tellable : goal.end_flow-requires-clause-tellable
end_flow-requires-clause-tellable g c κs within =
    let progress = c.args.engine.progress in
    let kept = c.graph-graph.ensures.kept in
    let sound = c.rest_laws.ensures.idle c.args.engine.app progress kept.jobs kept.values kept.sound c.requires.at_rest in
    tellable_from g.A.App.meaning c.args.engine c.in-Ok.hall c.in-Ok.ensures.hall sound

-- ---- where all workers have stopped

pub returns-in-Ok-seat-clause-flow : goal.returns-in-Ok-seat-clause-flow
returns-in-Ok-seat-clause-flow g c =
    let known = g.K.Sink.contents in
    let faults = g.K.Sink.faults in
    let begin = c.args.out.now in
    let next = c.work_together-seat.result.1 in
    let outlet = c.new-outlet.ensures in
    let sent = told_since known faults c.telling_laws.ensures.begins c.new-outlet.result next begin c.work_together-seat.new.out outlet.held outlet.no_fault outlet.told c.work_together-seat.ensures.tells in
    subst (λ (e : EngineState g.row.A.Denot g.row.A-Val.Denot). IsFlow (g.A.App.meaning e.app) e.progress (transfer_of known faults begin c.end_flow.new.out) c.end_flow.result) c.in-Ok.ensures.hall
    (c.end_flow.ensures.flow begin sent)

pub returns-in-Ok-seat-clause-never_falls : goal.returns-in-Ok-seat-clause-never_falls
returns-in-Ok-seat-clause-never_falls g c =
    let known = g.K.Sink.contents in
    let faults = g.K.Sink.faults in
    let begin = c.args.out.now in
    let next = c.work_together-seat.result.1 in
    let outlet = c.new-outlet.ensures in
    let sent = told_since known faults c.telling_laws.ensures.begins c.new-outlet.result next begin c.work_together-seat.new.out outlet.held outlet.no_fault outlet.told c.work_together-seat.ensures.tells in
    c.end_flow.ensures.never_falls begin sent

-- ---- where memory runs out

pub returns-in-Err-clause-flow : goal.returns-in-Err-clause-flow
returns-in-Err-clause-flow g c =
    let known = g.K.Sink.contents in
    let faults = g.K.Sink.faults in
    let begin = c.args.out.now in
    let next = c.work_together-seat.result.1 in
    let outlet = c.new-outlet.ensures in
    let sent = told_since known faults c.telling_laws.ensures.begins c.new-outlet.result next begin c.work_together-seat.new.out outlet.held outlet.no_fault outlet.told c.work_together-seat.ensures.tells in
    let front = subst (λ (e : EngineState g.row.A.Denot g.row.A-Val.Denot). IsFrontTold (g.A.App.meaning e.app) e.progress next.told) c.in-Ok.ensures.hall c.work_together-seat.ensures.front in
    stream_front (g.A.App.meaning c.args.engine.app) c.args.engine.progress (transfer_of known faults begin c.work_together-seat.new.out) c.telling_laws.ensures.front
    next.told next.held next.has_failed front sent

pub returns-in-Err-clause-never_falls : goal.returns-in-Err-clause-never_falls
returns-in-Err-clause-never_falls g c =
    let known = g.K.Sink.contents in
    let faults = g.K.Sink.faults in
    let begin = c.args.out.now in
    let next = c.work_together-seat.result.1 in
    let outlet = c.new-outlet.ensures in
    let sent = told_since known faults c.telling_laws.ensures.begins c.new-outlet.result next begin c.work_together-seat.new.out outlet.held outlet.no_fault outlet.told c.work_together-seat.ensures.tells in
    sent.never_falls
