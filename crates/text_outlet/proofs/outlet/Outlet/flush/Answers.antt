use Rattle.std.proofs.Common.{[], List, ℕ, sym, subst}
use Rattle.std.specs.Prelude.{OnErr, OnOk}
use Rattle.std.specs.Io.KnownBytes.{Appends}
use Rattle.outer_edge.specs.Transfers.{transfer_of}
use Rattle.outer_edge.specs.Writing.{AppendsFront}
use Rattle.text_outlet.specs.Sending.{IsSent}
use Rattle.text_outlet.proofs.Sending.{flushed}
use Rattle.text_outlet.proofs.outlet.Outlet.flush.Goals as goal

pub returns-clause-tells : goal.returns-clause-tells
returns-clause-tells g c = λ begin text told.
    let known = g.K.Sink.contents in
    let faults = g.K.Sink.faults in
    let old = c.args.out.now in
    let next = c.write_whole.new.out in
    let result = c.write_whole.result in
    let write = c.write_whole.ensures in
    let written = subst (λ (bytes : List ℕ). OnOk result (Appends (known old) (known next) bytes)) c.bytes.ensures write.ok in
    let front = subst (λ (bytes : List ℕ). OnErr result (AppendsFront (known old) (known next) bytes)) c.bytes.ensures write.front in
    let sent =
    flushed (known begin) (known old) (known next) (faults begin) (faults old) (faults next) c.args.self.now.held text c.args.self.now.has_failed result c.if-self.false written write.no_fault front write.write_fault
    write.never_falls told in
    subst (λ held. IsSent (transfer_of known faults begin next) c.is_err-self.result held text) (sym c.clear-2.ensures)
    (subst (λ failed. IsSent (transfer_of known faults begin next) failed [] text) (sym c.is_err-self.ensures.value) sent)
