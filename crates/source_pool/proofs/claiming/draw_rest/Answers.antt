use Rattle.std.proofs.Common.{◌≡◌, sym, ap, subst, ◌∙◌}
use Rattle.std.specs.List.{AllByRecursion}
use Rattle.plain_laws.specs.Lists.{All-push}
use Rattle.run_laws.specs.Answers.{IsClaimAnswer}
use Rattle.graph_update.specs.Engine.{IsToRun}
use Rattle.crew.specs.Jobs.{MayRun}
use Rattle.run_laws.specs.Events.{IsClaimed, clear_nodes}
use Rattle.run_laws.specs.Progress.{Progress}
use Rattle.source_pool.specs.Performing.{HasDrawn}
use Rattle.source_pool.proofs.DrawnInOrder.{one_more_drawn}
use Rattle.source_pool.proofs.DrawnOut.{drawn_out}
use Rattle.source_pool.proofs.claiming.draw_rest.Goals as goal

pub loop-job-smaller : goal.loop-job-smaller
loop-job-smaller g c =
    let answer = subst (IsClaimAnswer (g.A.App.meaning c.loop-job.engine.app) c.loop-job.engine.progress 0 c.claim.new.self.progress) c.in-Job.is c.in_ok-job.ensures.answer in
    let claimed = subst (λ (app : g.row.A.Denot). IsClaimed (g.A.App.meaning app) c.loop-job.engine.progress 0 c.claim.new.self.progress c.in-Job.job) c.loop-job.invariant.app answer.1 in
    c.drawing_laws.ensures.fewer c.args.engine.now.app c.loop-job.engine.progress c.claim.new.self.progress 0 c.in-Job.job claimed

pub loop-job-preserved : goal.loop-job-preserved
loop-job-preserved g c =
    let start = c.args.engine.now.app in
    let app = g.A.App.meaning start in
    let answer = subst (IsClaimAnswer (g.A.App.meaning c.loop-job.engine.app) c.loop-job.engine.progress 0 c.claim.new.self.progress) c.in-Job.is c.in_ok-job.ensures.answer in
    let claimed = subst (λ (app : g.row.A.Denot). IsClaimed (g.A.App.meaning app) c.loop-job.engine.progress 0 c.claim.new.self.progress c.in-Job.job) c.loop-job.invariant.app answer.1 in
    let to_run = subst (IsToRun (g.A.App.meaning c.loop-job.engine.app)) c.in-Job.is c.in_ok-job.ensures.may_run in
    let may_run = subst (λ (app : g.row.A.Denot). MayRun (g.A.App.meaning app) c.in-Job.job) c.loop-job.invariant.app to_run in
    record {
      app = c.claim.ensures.app ∙ c.loop-job.invariant.app;
      not_over = ap (λ (p : Progress g.row.A-Val.Denot). p.over) claimed.after ∙ c.loop-job.invariant.not_over;
      drawn = subst (λ items. HasDrawn app (λ drawn. drawn ≡ items) c.args.engine.now.progress c.claim.new.self.progress) (sym c.in_ok-push_back.ensures.items)
          (one_more_drawn app c.args.engine.now.progress c.loop-job.engine.progress c.claim.new.self.progress c.loop-job.jobs.items c.in-Job.job
          (c.drawing_laws.ensures.goes_on start) (c.drawing_laws.ensures.in_key_order start) c.loop-job.invariant.drawn claimed);
      may_run = subst (AllByRecursion (MayRun app)) (sym c.in_ok-push_back.ensures.items) (All-push (MayRun app) c.loop-job.jobs.items c.in-Job.job c.loop-job.invariant.may_run may_run);
      ended = ap (λ (p : Progress g.row.A-Val.Denot). p.ended) claimed.after ∙ c.loop-job.invariant.ended;
    }

pub returns : goal.returns
returns g c =
    let app = g.A.App.meaning c.args.engine.now.app in
    let answer = subst (λ (app : g.row.A.Denot). IsClaimAnswer (g.A.App.meaning app) c.loop-job.engine.progress 0 c.claim.new.self.progress c.in_ok-job.field-0) c.loop-job.invariant.app c.in_ok-job.ensures.answer in
    let out = drawn_out app c.loop-job.engine.progress c.claim.new.self.progress 0 c.in_ok-job.field-0 answer c.in_default.not-Job c.loop-job.invariant.not_over in
    record {
      app = c.claim.ensures.app ∙ c.loop-job.invariant.app;
      drawn = subst (λ (now : Progress g.row.A-Val.Denot). HasDrawn app (λ drawn. drawn ≡ c.loop-job.jobs.items) c.args.engine.now.progress now) (sym out.same) c.loop-job.invariant.drawn;
      none_clear = ap (λ (p : Progress g.row.A-Val.Denot). clear_nodes app p.nodes) out.same ∙ out.none_clear;
      may_run = c.loop-job.invariant.may_run;
      ended = ap (λ (p : Progress g.row.A-Val.Denot). p.ended) out.same ∙ c.loop-job.invariant.ended;
    }
