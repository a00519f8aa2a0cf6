use Rattle.std.proofs.Common.{◌∙◌, [], ◌∷◌, ℕ, List, subst}
use Rattle.outer_edge.specs.Transfers.{transfer_of}
use Rattle.run_laws.specs.Answers.{IsClaimAnswer}
use Rattle.source_pool.specs.Runs.{IsOverLimit, IsRunFault}
use Rattle.text_outlet.specs.Sending.{IsSent}
use Rattle.worker_gate.specs.Hall.{sum_of}
use Rattle.free_pool.specs.Streams.{IsFlow}
use Rattle.free_pool.proofs.Closing.{closed}
use Rattle.free_pool.proofs.Ends.{marked_fault}
use Rattle.free_pool.proofs.Flows.{stream_front, stream_over}
use Rattle.free_pool.proofs.Told.{front_told}
use Rattle.free_pool.proofs.stream.end_flow.Goals as goal

pub returns-in-Ok-Over-Budget-clause-flow : goal.returns-in-Ok-Over-Budget-clause-flow
returns-in-Ok-Over-Budget-clause-flow g c begin sent =
    let arm = c.in-Ok-Over-Budget in
    let origin = c.args.hall.origin in
    let app = g.A.App.meaning origin.app in
    let engine = c.close-engine.result in
    let told = c.args.outlet.told in
    let answered = subst (IsClaimAnswer (g.A.App.meaning engine.app) engine.progress 0 c.claim.new.self.progress) arm.field-0-is arm.ensures.answer in
    let fault = marked_fault origin.progress engine.progress (sum_of (c.args.seat.view ∷ [])) c.close-engine.ensures.progress arm.field-0-0 answered.0 in
    let over : IsOverLimit app origin.progress arm.created arm.limit = subst (IsRunFault app origin.progress) arm.field-0-0-is fault in
    let last = c.flush.new in
    let transfer = transfer_of g.K.Sink.contents g.K.Sink.faults begin last.out in
    let flushed = subst (λ (held : List ℕ). IsSent transfer last.self.has_failed held told) c.flush.ensures.nothing_held (c.flush.ensures.tells begin told sent) in
    let front = front_told origin.progress c.part_laws.ensures.texts c.args.seat.view.drained told c.requires.told in
    let answer = stream_over app origin.progress transfer c.telling_laws.ensures.all c.telling_laws.ensures.front told arm.created arm.limit last.self.has_failed over front flushed in
    rw c.has_failed.ensures (rw arm.field-0-0-is answer)

pub returns-in-Ok-Over-Budget-clause-never_falls : goal.returns-in-Ok-Over-Budget-clause-never_falls
returns-in-Ok-Over-Budget-clause-never_falls g c begin sent = (c.flush.ensures.tells begin c.args.outlet.told sent).never_falls

pub returns-in-Ok-Ended-clause-flow : goal.returns-in-Ok-Ended-clause-flow
returns-in-Ok-Ended-clause-flow g c begin sent =
    let arm = c.in-Ok-Ended in
    let known = g.K.Sink.contents in
    let faults = g.K.Sink.faults in
    let origin = c.args.hall.origin in
    let engine = c.close-engine.result in
    let answered = subst (IsClaimAnswer (g.A.App.meaning engine.app) engine.progress 0 c.claim.new.self.progress) arm.field-0-is arm.ensures.answer in
    let streaming = closed g.A.App.meaning known faults origin engine c.args.seat.view c.args.outlet begin c.args.out.now c.close-engine.ensures c.requires.tellable c.requires.told sent
    c.claim.new.self c.claim.ensures.app answered.2 in
    subst (λ (app : g.row.A.Denot). IsFlow (g.A.App.meaning app) origin.progress (transfer_of known faults begin c.tell_end.new.out) c.tell_end.result)
    (c.claim.ensures.app ∙ c.close-engine.ensures.app)
    (c.tell_end.ensures.flow origin.progress (sum_of (c.args.seat.view ∷ [])) begin streaming)

pub returns-in-Ok-Over-NoRoom-clause-flow : goal.returns-in-Ok-Over-NoRoom-clause-flow
returns-in-Ok-Over-NoRoom-clause-flow g c begin sent =
    let origin = c.args.hall.origin in
    let app = g.A.App.meaning origin.app in
    let outlet = c.args.outlet in
    let front = front_told origin.progress c.part_laws.ensures.texts c.args.seat.view.drained outlet.told c.requires.told in
    stream_front app origin.progress (transfer_of g.K.Sink.contents g.K.Sink.faults begin c.args.out.now) c.telling_laws.ensures.front outlet.told outlet.held outlet.has_failed front sent
