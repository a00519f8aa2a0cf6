use Rattle.std.proofs.Common.{refl, sym, subst, ◌∙◌, arith}
use Rattle.std.proofs.lemmas.Result.{err_from_is_err_and}
use Rattle.plain_laws.specs.Lists.{nothing_left}
use Rattle.run_laws.specs.Answers.{IsFinishRefusal}
use Rattle.run_laws.specs.Events.{IsFinished, IsOverLimit}
use Rattle.run_laws.specs.Laws.{IsDone}
use Rattle.source_pool.proofs.Ended.{HaveCome, all_at_fault, all_ended, first_is_done, none_ended, one_ended}
use Rattle.source_pool.proofs.finishing.end_all.Goals as goal

pub loop-done-init : goal.loop-done-init
loop-done-init g c = record { app = refl; come = none_ended (g.A.App.meaning c.args.engine.now.app) c.args.dones.now.items c.args.engine.now.progress }

pub finish-requires-after_bounds : goal.finish-requires-after_bounds
finish-requires-after_bounds g c κs within =
    let app = g.A.App.meaning c.args.engine.now.app in
    let at = c.loop-done in
    let may = c.requires.may_end in
    let all = c.args.dones.now.items in
    let old = c.args.engine.now.progress in
    let come = subst (λ dones. HaveCome app all old dones at.engine.progress) c.in-Some.ensures.items at.invariant.come in
    subst (λ (app : g.row.A.Denot). IsDone (g.A.App.meaning app) at.engine.progress c.in-Some.done) (sym at.invariant.app)
    (first_is_done app (c.ending_laws.ensures.first c.args.engine.now.app) c.in-Some.done c.pop_front.new.self.items at.engine.progress may.to may.others _ (come may.to may.jobs may.others may.such may.ending))

pub loop-done-preserved : goal.loop-done-preserved
loop-done-preserved g c =
    let app = g.A.App.meaning c.args.engine.now.app in
    let at = c.loop-done in
    let all = c.args.dones.now.items in
    let old = c.args.engine.now.progress in
    let next = c.finish.new.self.progress in
    let come = subst (λ dones. HaveCome app all old dones at.engine.progress) c.in-Some.ensures.items at.invariant.come in
    let finished = subst (λ (app : g.row.A.Denot). IsFinished (g.A.App.meaning app) at.engine.progress c.in-Some.done next) at.invariant.app c.in_ok-finish.ensures.finished in
    let within = subst (λ (app : g.row.A.Denot). ¬ IsOverLimit (g.A.App.meaning app) at.engine.progress c.in-Some.done) at.invariant.app c.in_ok-finish.ensures.within in
    record {
      app = c.finish.ensures.app ∙ at.invariant.app;
      come = one_ended app (c.ending_laws.ensures.goes_on c.args.engine.now.app) all old c.in-Some.done c.pop_front.new.self.items at.engine.progress next come within finished;
    }

pub returns-in_err-finish-clause-fault : goal.returns-in_err-finish-clause-fault
returns-in_err-finish-clause-fault g c =
    let app = g.A.App.meaning c.args.engine.now.app in
    let at = c.loop-done in
    let come = subst (λ dones. HaveCome app c.args.dones.now.items c.args.engine.now.progress dones at.engine.progress) c.in-Some.ensures.items at.invariant.come in
    let refusal = subst (λ (app : g.row.A.Denot). IsFinishRefusal (g.A.App.meaning app) at.engine.progress c.in-Some.done c.finish.new.self.progress c.in_err-finish.field-0.0) at.invariant.app c.in_err-finish.ensures.refused in
    let e = err_from_is_err_and c.from_residual.result c.from_residual.ensures.1 in
    rw (e.1, e.2)
    (all_at_fault app (c.ending_laws.ensures.too_many c.args.engine.now.app) (c.kept_laws.ensures.ends_pass c.args.engine.now.app) c.args.dones.now.items c.args.engine.now.progress c.in-Some.done c.pop_front.new.self.items
    at.engine.progress c.finish.new.self.progress come c.in_err-finish.field-0.0 refusal)

pub returns-clause-ended : goal.returns-clause-ended
returns-clause-ended g c =
    let app = g.A.App.meaning c.args.engine.now.app in
    let at = c.loop-done in
    let all = c.args.dones.now.items in
    let old = c.args.engine.now.progress in
    let none = nothing_left c.pop_front.result at.dones.items (λ some. c.pop_front.ensures.variant.1 (omega (arith, some))) c.in_default.not-Some in
    all_ended app all old at.engine.progress (subst (λ dones. HaveCome app all old dones at.engine.progress) none at.invariant.come)
