use Rattle.std.proofs.KnownBytes.{Appends-nil}
use Rattle.outer_edge.specs.Transfers.{transfer_of}
use Rattle.kdg_prog.proofs.Promising.{when_served, when_unread}
use Rattle.kdg_prog.proofs.Searched.{levels_when_served, unread_not_ok}
use Rattle.kdg_prog.proofs.whole_run.run_asked.Goals as goal
use Rattle.std.proofs.Common.{refl}

pub returns-in-Ok-clause-promises : goal.returns-in-Ok-clause-promises
returns-in-Ok-clause-promises g c =
    let source = transfer_of g.S.Source.remaining g.S.Source.faults c.args.source.now c.read_input.new.source in
    let sink = transfer_of g.K.Sink.contents g.K.Sink.faults c.args.sink.now c.serve_free.new.sink in
    when_served c.args.options.now source sink c.in-Ok.input c.in-Ok.ensures.taken c.serve_free.result c.status_of.result c.status_of.ensures.ok c.status_of.ensures.refused c.serve_free.ensures.served

pub returns-in-Err-clause-promises : goal.returns-in-Err-clause-promises
returns-in-Err-clause-promises g c =
    let source = transfer_of g.S.Source.remaining g.S.Source.faults c.args.source.now c.read_input.new.source in
    let sink = transfer_of g.K.Sink.contents g.K.Sink.faults c.args.sink.now c.args.sink.now in
    when_unread c.args.options.now source sink c.in-Err.fault c.from.result c.in-Err.ensures.taken c.from.ensures (Appends-nil sink.before) refl

pub returns-in-Ok-clause-levels : goal.returns-in-Ok-clause-levels
returns-in-Ok-clause-levels g c = λ command ok.
    let source = transfer_of g.S.Source.remaining g.S.Source.faults c.args.source.now c.read_input.new.source in
    let sink = transfer_of g.K.Sink.contents g.K.Sink.faults c.args.sink.now c.serve_free.new.sink in
    levels_when_served c.args.options.now source sink c.in-Ok.input c.in-Ok.ensures.taken c.serve_free.result c.status_of.result command (c.serve_free.ensures.levels command) c.status_of.ensures.refused c.serve_free.ensures.served ok

pub returns-in-Err-clause-levels : goal.returns-in-Err-clause-levels
returns-in-Err-clause-levels g c = λ command ok. absurd (unread_not_ok c.in-Err.fault c.from.result c.from.ensures ok)
