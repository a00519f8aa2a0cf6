use Rattle.std.proofs.Common.{◌∙◌, List, ℕ, sym, subst}
use Rattle.source_pool.specs.Streams.{told_by}
use Rattle.text_outlet.specs.Sending.{TellsMore}
use Rattle.source_pool.proofs.draining.tell.Goals as goal

pub returns-clause-tells : goal.returns-clause-tells
returns-clause-tells g c =
    let known = g.K.Sink.contents in
    let faults = g.K.Sink.faults in
    let app = g.A.App.meaning c.args.engine.now.app in
    let old = c.args.engine.now.progress in
    let none = sym c.has_failed.ensures ∙ c.if-has_failed.false in
    let tells = subst (λ (more : List ℕ). TellsMore known faults c.args.outlet.now c.args.out.now c.tell.new.self c.tell.new.out more) c.in_ok-more.ensures.text c.in_ok-tell.ensures.tells in
    subst (λ failed. TellsMore known faults c.args.outlet.now c.args.out.now c.tell.new.self c.tell.new.out (told_by app failed old)) (sym none) tells
