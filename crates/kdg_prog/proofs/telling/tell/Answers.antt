use Rattle.outer_edge.specs.Transfers.{transfer_of}
use Rattle.kdg_prog.specs.Status.{fault_text}
use Rattle.kdg_prog.proofs.LineFeeds.{fed, told_by}
use Rattle.kdg_prog.proofs.telling.tell.Goals as goal

pub returns-then-len-gt0-clause-told : goal.returns-then-len-gt0-clause-told
returns-then-len-gt0-clause-told g c bad =
    told_by c.args.status.now (transfer_of g.E.Sink.contents g.E.Sink.faults c.args.errors.now c.write_whole.new.out) _ c.write_whole.result
    (fed (fault_text c.args.status.now) c.fault_line-len.new.line c.fault_line-len.result c.fault_line-len.ensures.len c.fault_line-len.ensures.within c.fault_line-len.ensures.text)
    c.write_whole.ensures.ok c.write_whole.ensures.no_fault c.write_whole.ensures.write_fault c.write_whole.ensures.front
