use Rattle.std.proofs.Common.{◌∙◌, ◌++◌, List, ℕ, sym, subst, ap}
use Rattle.outer_edge.specs.Transfers.{transfer_of}
use Rattle.output_log.specs.Entries.{joined_texts}
use Rattle.graph_update.specs.Engine.{EngineState}
use Rattle.source_pool.specs.Streams.{TakesFront}
use Rattle.text_outlet.specs.Sending.{IsSent}
use Rattle.free_pool.proofs.Flows.{fit_at_home}
use Rattle.free_pool.proofs.Streaming.{EndingLaws, front_so_far, front_with_more, told_end, untold_end}
use Rattle.free_pool.proofs.stream.tell_end.Goals as goal

pub returns-in_default-clause-flow : goal.returns-in_default-clause-flow
returns-in_default-clause-flow g c origin sum begin streaming =
    let app = c.args.engine.app in
    let laws : EndingLaws (g.A.App.meaning app) = record {
      lengths = c.join_laws.ensures.length;
      texts = c.part_laws.ensures.texts;
      first = c.drained_laws.ensures app;
      drains = c.course_drain_laws.ensures.drains app;
      ends = c.course_run_laws.ensures.end app;
      writes = c.telling_laws.ensures.all;
      fronts = c.telling_laws.ensures.front;
    } in
    front_so_far laws g.K.Sink.contents g.K.Sink.faults origin sum begin c.args.engine.progress c.args.outlet c.args.out.now streaming

-- ---- where a write has failed before

pub returns-then-has_failed-clause-flow : goal.returns-then-has_failed-clause-flow
returns-then-has_failed-clause-flow g c origin sum begin streaming =
    let app = c.args.engine.app in
    let laws : EndingLaws (g.A.App.meaning app) = record {
      lengths = c.join_laws.ensures.length;
      texts = c.part_laws.ensures.texts;
      first = c.drained_laws.ensures app;
      drains = c.course_drain_laws.ensures.drains app;
      ends = c.course_run_laws.ensures.end app;
      writes = c.telling_laws.ensures.all;
      fronts = c.telling_laws.ensures.front;
    } in
    let end = c.in-Ok.ensures in
    untold_end laws g.K.Sink.contents g.K.Sink.faults origin sum begin c.args.engine.progress c.args.outlet c.args.out.now streaming
    (sym c.has_failed.ensures ∙ c.if-has_failed.true) c.requires.ended c.in-Ok.finals end.store end.text end.count

pub returns-then-has_failed-clause-fit : goal.returns-then-has_failed-clause-fit
returns-then-has_failed-clause-fit g c =
    let whole = c.in-Ok.ensures.whole in
    fit_at_home (g.A.App.meaning c.args.engine.app) c.in-Ok.finals whole.0 (c.value_laws.ensures.values.values_of_homes whole.0) whole.2 whole.1.ready.cells

-- ---- where memory runs out

pub returns-in_default-drain-clause-flow : goal.returns-in_default-drain-clause-flow
returns-in_default-drain-clause-flow g c origin sum begin streaming =
    let app = c.args.engine.app in
    let laws : EndingLaws (g.A.App.meaning app) = record {
      lengths = c.join_laws.ensures.length;
      texts = c.part_laws.ensures.texts;
      first = c.drained_laws.ensures app;
      drains = c.course_drain_laws.ensures.drains app;
      ends = c.course_run_laws.ensures.end app;
      writes = c.telling_laws.ensures.all;
      fronts = c.telling_laws.ensures.front;
    } in
    front_so_far laws g.K.Sink.contents g.K.Sink.faults origin sum begin c.args.engine.progress c.args.outlet c.args.out.now streaming

pub returns-in_default-tell-clause-flow : goal.returns-in_default-tell-clause-flow
returns-in_default-tell-clause-flow g c origin sum begin streaming =
    let app = c.args.engine.app in
    let laws : EndingLaws (g.A.App.meaning app) = record {
      lengths = c.join_laws.ensures.length;
      texts = c.part_laws.ensures.texts;
      first = c.drained_laws.ensures app;
      drains = c.course_drain_laws.ensures.drains app;
      ends = c.course_run_laws.ensures.end app;
      writes = c.telling_laws.ensures.all;
      fronts = c.telling_laws.ensures.front;
    } in
    let known = g.K.Sink.contents in
    let faults = g.K.Sink.faults in
    subst (λ (sink : g.row.K.Denot). TakesFront (g.A.App.meaning app) origin (transfer_of known faults begin sink)) (sym c.in_default-tell.ensures.nothing_told.1)
    (front_so_far laws known faults origin sum begin c.args.engine.progress c.args.outlet c.args.out.now streaming)

pub returns-in_default-end-clause-flow : goal.returns-in_default-end-clause-flow
returns-in_default-end-clause-flow g c origin sum begin streaming =
    let app = c.args.engine.app in
    let laws : EndingLaws (g.A.App.meaning app) = record {
      lengths = c.join_laws.ensures.length;
      texts = c.part_laws.ensures.texts;
      first = c.drained_laws.ensures app;
      drains = c.course_drain_laws.ensures.drains app;
      ends = c.course_run_laws.ensures.end app;
      writes = c.telling_laws.ensures.all;
      fronts = c.telling_laws.ensures.front;
    } in
    front_with_more laws g.K.Sink.contents g.K.Sink.faults origin sum begin c.args.engine.progress c.args.outlet c.args.out.now streaming
    c.in-Ok-drain.more c.in-Ok-drain.ensures.text c.tell.new.self c.tell.new.out c.in-Ok-tell.ensures.tells

pub returns-in_default-end-clause-never_falls : goal.returns-in_default-end-clause-never_falls
returns-in_default-end-clause-never_falls g c begin sent = (c.in-Ok-tell.ensures.tells begin c.args.outlet.told sent).never_falls

-- ---- where all is told

pub returns-clause-flow : goal.returns-clause-flow
returns-clause-flow g c origin sum begin streaming =
    let app = c.args.engine.app in
    let laws : EndingLaws (g.A.App.meaning app) = record {
      lengths = c.join_laws.ensures.length;
      texts = c.part_laws.ensures.texts;
      first = c.drained_laws.ensures app;
      drains = c.course_drain_laws.ensures.drains app;
      ends = c.course_run_laws.ensures.end app;
      writes = c.telling_laws.ensures.all;
      fronts = c.telling_laws.ensures.front;
    } in
    let known = g.K.Sink.contents in
    let faults = g.K.Sink.faults in
    let more = c.in-Ok-drain.more in
    let text = c.args.outlet.told ++ more in
    let transfer = transfer_of known faults begin c.flush.new.out in
    let told = c.in-Ok-tell.ensures.tells begin c.args.outlet.told streaming.sent in
    let sent = subst (λ (held : List ℕ). IsSent transfer c.flush.new.self.has_failed held text) c.flush.ensures.nothing_held (c.flush.ensures.tells begin text told) in
    let drained = c.in-Ok-drain.ensures.ok in
    let end = c.in-Ok-end.ensures in
    let answer = told_end laws known faults origin sum begin c.args.engine.progress c.args.outlet c.args.out.now streaming more c.in-Ok-drain.ensures.text c.tell.new.self c.tell.new.out c.in-Ok-tell.ensures.tells
    c.flush.new.self.has_failed c.flush.new.out sent c.requires.ended c.in-Ok-end.finals
    (end.store ∙ ap (λ (e : EngineState g.row.A.Denot g.row.A-Val.Denot). e.progress.cells) drained)
    (end.text ∙ ap (λ (e : EngineState g.row.A.Denot g.row.A-Val.Denot). joined_texts e.progress.log) drained)
    (end.count ∙ ap (λ (e : EngineState g.row.A.Denot g.row.A-Val.Denot). e.progress.ended) drained) in
    rw c.has_failed-2.ensures answer

pub returns-clause-fit : goal.returns-clause-fit
returns-clause-fit g c =
    let whole = c.in-Ok-end.ensures.whole in
    let same = ap (λ (e : EngineState g.row.A.Denot g.row.A-Val.Denot). e.app) c.in-Ok-drain.ensures.ok in
    fit_at_home (g.A.App.meaning c.args.engine.app) c.in-Ok-end.finals whole.0 (c.value_laws.ensures.values.values_of_homes whole.0) whole.2
    (subst (λ (app : g.row.A.Denot). (g.A.App.meaning app).is_fit_cells whole.0) same whole.1.ready.cells)

pub returns-clause-never_falls : goal.returns-clause-never_falls
returns-clause-never_falls g c begin sent =
    let told = c.in-Ok-tell.ensures.tells begin c.args.outlet.told sent in
    (c.flush.ensures.tells begin (c.args.outlet.told ++ c.in-Ok-drain.more) told).never_falls
