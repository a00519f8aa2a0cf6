use Rattle.std.proofs.Common.{◌≡◌, List, [], ℕ, subst, arith}
use Rattle.cell_store.specs.Values.{values_of}
use Rattle.source_pool.proofs.Flows.{stream_end, stream_front, stream_over}
use Rattle.outer_edge.specs.Transfers.{transfer_of}
use Rattle.std.specs.Prelude.{IfErr, Result}
use Rattle.app_laws.specs.declared.serial_run.Finals.{Finals}
use Rattle.crew.specs.declared.answers.OverCause.{OverCause}
use Rattle.crew.specs.declared.answers.OverCause.TheVariants as cause
use Rattle.source_pool.specs.Runs.{IsOverLimit, IsRunFault}
use Rattle.source_pool.specs.Streams.{IsCutShort}
use Rattle.text_outlet.specs.Sending.{IsSent, TellsMore}
use Rattle.source_pool.proofs.Sending.{first_told}
use Rattle.source_pool.proofs.rounds.rounds_to.Goals as goal

pub staffed_rounds-run-requires-clause-rest : goal.staffed_rounds-run-requires-clause-rest
staffed_rounds-run-requires-clause-rest g c κs within =
    let progress = c.args.engine.progress in
    let kept = c.graph-graph.ensures.kept in
    let sound = c.rest_laws.ensures.idle c.args.engine.app progress kept.jobs kept.values kept.sound c.requires.at_rest in
    c.drawing_laws.ensures.starts c.args.engine.app progress (values_of progress.cells) sound c.requires.not_over

pub staffed_rounds-run-requires-clause-limited : goal.staffed_rounds-run-requires-clause-limited
staffed_rounds-run-requires-clause-limited g c κs within = omega (arith, c.graph-graph.ensures.kept.limited)

pub returns-in-Ok-clause-flow : goal.returns-in-Ok-clause-flow
returns-in-Ok-clause-flow g c =
    let known = g.K.Sink.contents in
    let faults = g.K.Sink.faults in
    let begin = c.args.out.now in
    let transfer = transfer_of known faults begin c.flush.new.out in
    let end = c.in-Ok.ensures.end in
    let told = end.1 begin [] (first_told known faults c.new-outlet.result begin c.new-outlet.ensures.held c.new-outlet.ensures.no_fault) in
    let sent = subst (λ held. IsSent transfer c.flush.new.self.has_failed held end.0) c.flush.ensures.nothing_held (c.flush.ensures.tells begin end.0 told) in
    let ended = stream_end c.args.engine.progress transfer end.0 c.staffed_rounds-run.new.outlet.has_failed c.flush.new.self.has_failed c.in-Ok.finals c.in-Ok.rounds c.flush.ensures.stays end.2 sent in
    rw c.has_failed.ensures ended

pub returns-in-Ok-clause-never_falls : goal.returns-in-Ok-clause-never_falls
returns-in-Ok-clause-never_falls g c =
    let known = g.K.Sink.contents in
    let faults = g.K.Sink.faults in
    let begin = c.args.out.now in
    let end = c.in-Ok.ensures.end in
    let told = end.1 begin [] (first_told known faults c.new-outlet.result begin c.new-outlet.ensures.held c.new-outlet.ensures.no_fault) in
    (c.flush.ensures.tells begin end.0 told).never_falls

-- ---- where the limit is passed

pub returns-in-Err-Budget-clause-flow : goal.returns-in-Err-Budget-clause-flow
returns-in-Err-Budget-clause-flow g c =
    let known = g.K.Sink.contents in
    let faults = g.K.Sink.faults in
    let begin = c.args.out.now in
    let app = g.A.App.meaning c.args.engine.app in
    let start = c.args.engine.progress in
    let next = c.staffed_rounds-run.new.outlet in
    let sink = c.staffed_rounds-run.new.out in
    let is : c.in-Err-Budget.field-0 ≡ cause.Budget c.in-Err-Budget.created c.in-Err-Budget.limit = rw c.in-Err-Budget.is at c.in-Err-Budget.field-0-is in
    let Cut = λ (why : OverCause). (told : List ℕ) × TellsMore known faults c.new-outlet.result begin next sink told × IsCutShort app start next.has_failed told why in
    let short : Cut (cause.Budget c.in-Err-Budget.created c.in-Err-Budget.limit) = subst Cut is (subst (λ (run : Result (Finals g.row.A-Val.Denot × ℕ) OverCause). IfErr run Cut) c.in-Err-Budget.is c.staffed_rounds-run.ensures.cut) in
    let told = short.1 begin [] (first_told known faults c.new-outlet.result begin c.new-outlet.ensures.held c.new-outlet.ensures.no_fault) in
    let kept = c.graph-graph.ensures.kept in
    let sound = c.rest_laws.ensures.idle c.args.engine.app start kept.jobs kept.values kept.sound c.requires.at_rest in
    let rest = c.drawing_laws.ensures.starts c.args.engine.app start (values_of start.cells) sound c.requires.not_over in
    let fronts = c.kept_laws.ensures.fronts c.args.engine.app in
    let over : IsOverLimit app start c.in-Err-Budget.created c.in-Err-Budget.limit =
    subst (IsRunFault app start) is (subst (λ (run : Result (Finals g.row.A-Val.Denot × ℕ) OverCause). IfErr run (IsRunFault app start)) c.in-Err-Budget.is c.staffed_rounds-run.ensures.fault) in
    let flushed = c.flush-in-Err-Budget in
    let transfer = transfer_of known faults begin flushed.new.out in
    let sent = subst (λ held. IsSent transfer flushed.new.self.has_failed held short.0) flushed.ensures.nothing_held (flushed.ensures.tells begin short.0 told) in
    let answer = stream_over start transfer short.0 next.has_failed flushed.new.self.has_failed c.in-Err-Budget.created c.in-Err-Budget.limit fronts rest flushed.ensures.stays over short.2 sent in
    rw c.has_failed-in-Err-Budget.ensures answer

pub returns-in-Err-Budget-clause-never_falls : goal.returns-in-Err-Budget-clause-never_falls
returns-in-Err-Budget-clause-never_falls g c =
    let known = g.K.Sink.contents in
    let faults = g.K.Sink.faults in
    let begin = c.args.out.now in
    let app = g.A.App.meaning c.args.engine.app in
    let start = c.args.engine.progress in
    let next = c.staffed_rounds-run.new.outlet in
    let sink = c.staffed_rounds-run.new.out in
    let is : c.in-Err-Budget.field-0 ≡ cause.Budget c.in-Err-Budget.created c.in-Err-Budget.limit = rw c.in-Err-Budget.is at c.in-Err-Budget.field-0-is in
    let Cut = λ (why : OverCause). (told : List ℕ) × TellsMore known faults c.new-outlet.result begin next sink told × IsCutShort app start next.has_failed told why in
    let short : Cut (cause.Budget c.in-Err-Budget.created c.in-Err-Budget.limit) = subst Cut is (subst (λ (run : Result (Finals g.row.A-Val.Denot × ℕ) OverCause). IfErr run Cut) c.in-Err-Budget.is c.staffed_rounds-run.ensures.cut) in
    let told = short.1 begin [] (first_told known faults c.new-outlet.result begin c.new-outlet.ensures.held c.new-outlet.ensures.no_fault) in
    (c.flush-in-Err-Budget.ensures.tells begin short.0 told).never_falls

-- ---- where no memory was to be had

pub returns-clause-flow : goal.returns-clause-flow
returns-clause-flow g c =
    let known = g.K.Sink.contents in
    let faults = g.K.Sink.faults in
    let begin = c.args.out.now in
    let app = g.A.App.meaning c.args.engine.app in
    let start = c.args.engine.progress in
    let next = c.staffed_rounds-run.new.outlet in
    let sink = c.staffed_rounds-run.new.out in
    let is : c.in-Err-NoRoom.field-0 ≡ cause.NoRoom = simp c.in-Err-NoRoom.is at c.in-Err-NoRoom.field-0-is in
    let Cut = λ (why : OverCause). (told : List ℕ) × TellsMore known faults c.new-outlet.result begin next sink told × IsCutShort app start next.has_failed told why in
    let short : Cut (cause.NoRoom) = subst Cut is (subst (λ (run : Result (Finals g.row.A-Val.Denot × ℕ) OverCause). IfErr run Cut) c.in-Err-NoRoom.is c.staffed_rounds-run.ensures.cut) in
    let told = short.1 begin [] (first_told known faults c.new-outlet.result begin c.new-outlet.ensures.held c.new-outlet.ensures.no_fault) in
    let kept = c.graph-graph.ensures.kept in
    let sound = c.rest_laws.ensures.idle c.args.engine.app start kept.jobs kept.values kept.sound c.requires.at_rest in
    let rest = c.drawing_laws.ensures.starts c.args.engine.app start (values_of start.cells) sound c.requires.not_over in
    let fronts = c.kept_laws.ensures.fronts c.args.engine.app in
    stream_front start (transfer_of known faults begin sink) short.0 next.has_failed next.held fronts rest short.2 told

pub returns-clause-never_falls : goal.returns-clause-never_falls
returns-clause-never_falls g c =
    let known = g.K.Sink.contents in
    let faults = g.K.Sink.faults in
    let begin = c.args.out.now in
    let app = g.A.App.meaning c.args.engine.app in
    let start = c.args.engine.progress in
    let next = c.staffed_rounds-run.new.outlet in
    let sink = c.staffed_rounds-run.new.out in
    let is : c.in-Err-NoRoom.field-0 ≡ cause.NoRoom = simp c.in-Err-NoRoom.is at c.in-Err-NoRoom.field-0-is in
    let Cut = λ (why : OverCause). (told : List ℕ) × TellsMore known faults c.new-outlet.result begin next sink told × IsCutShort app start next.has_failed told why in
    let short : Cut (cause.NoRoom) = subst Cut is (subst (λ (run : Result (Finals g.row.A-Val.Denot × ℕ) OverCause). IfErr run Cut) c.in-Err-NoRoom.is c.staffed_rounds-run.ensures.cut) in
    let told = short.1 begin [] (first_told known faults c.new-outlet.result begin c.new-outlet.ensures.held c.new-outlet.ensures.no_fault) in
    told.never_falls
