use Rattle.std.proofs.Common.{◌≡◌, ◌++◌, List, ℕ, sym, ap, subst, ◌∙◌}
use Rattle.outer_edge.specs.Transfers.{transfer_of}
use Rattle.text_outlet.specs.Sending.{IsSent}
use Rattle.text_outlet.proofs.Sending.{piece_held}
use Rattle.text_outlet.proofs.outlet.Outlet.tell.Goals as goal

pub returns-clause-tells : goal.returns-clause-tells
returns-clause-tells g c = λ begin text told.
    let known = g.K.Sink.contents in
    let faults = g.K.Sink.faults in
    let outlet = c.args.self.now in
    let sink = c.args.out.now in
    let more = c.args.more.now in
    let held : c.push_all.new.self ≡ outlet.held ++ more = c.in_ok-push_all.ensures.ok ∙ ap (λ (piece : List ℕ). outlet.held ++ piece) c.bytes.ensures in
    let sent = piece_held (transfer_of known faults begin sink) outlet.has_failed outlet.held text more c.requires.no_fault told in
    c.send.ensures.tells begin (text ++ more) (subst (λ held. IsSent (transfer_of known faults begin sink) outlet.has_failed held (text ++ more)) (sym held) sent)
