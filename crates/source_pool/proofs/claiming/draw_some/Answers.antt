use Rattle.std.proofs.Common.{◌≡◌, sym, ap, subst, ◌∙◌}
use Rattle.std.specs.List.{AllByRecursion}
use Rattle.plain_laws.specs.Lists.{All-push}
use Rattle.run_laws.specs.Answers.{IsClaimAnswer}
use Rattle.graph_update.specs.Engine.{IsToRun}
use Rattle.crew.specs.Jobs.{MayRun}
use Rattle.run_laws.specs.Events.{IsClaimed}
use Rattle.run_laws.specs.Progress.{Progress}
use Rattle.source_pool.specs.Performing.{HasDrawn}
use Rattle.source_pool.proofs.DrawnInOrder.{no_job_changes_nothing, one_more_drawn}
use Rattle.source_pool.proofs.claiming.draw_some.Goals as goal

pub loop-engine-preserved : goal.loop-engine-preserved
loop-engine-preserved g c =
    let start = c.args.engine.now.app in
    let app = g.A.App.meaning start in
    let answer = subst (IsClaimAnswer (g.A.App.meaning c.loop-engine.engine.app) c.loop-engine.engine.progress 0 c.claim.new.self.progress) c.in-Job.is c.in_ok-job.ensures.answer in
    let claimed = subst (λ (app : g.row.A.Denot). IsClaimed (g.A.App.meaning app) c.loop-engine.engine.progress 0 c.claim.new.self.progress c.in-Job.job) c.loop-engine.invariant.app answer.1 in
    let to_run = subst (IsToRun (g.A.App.meaning c.loop-engine.engine.app)) c.in-Job.is c.in_ok-job.ensures.may_run in
    let may_run = subst (λ (app : g.row.A.Denot). MayRun (g.A.App.meaning app) c.in-Job.job) c.loop-engine.invariant.app to_run in
    record {
      app = c.claim.ensures.app ∙ c.loop-engine.invariant.app;
      drawn = subst (λ items. HasDrawn app (λ drawn. drawn ≡ items) c.args.engine.now.progress c.claim.new.self.progress) (sym c.in_ok-push_back.ensures.items)
          (one_more_drawn app c.args.engine.now.progress c.loop-engine.engine.progress c.claim.new.self.progress c.loop-engine.jobs.items c.in-Job.job
          (c.drawing_laws.ensures.goes_on start) (c.drawing_laws.ensures.in_key_order start) c.loop-engine.invariant.drawn claimed);
      may_run = subst (AllByRecursion (MayRun app)) (sym c.in_ok-push_back.ensures.items) (All-push (MayRun app) c.loop-engine.jobs.items c.in-Job.job c.loop-engine.invariant.may_run may_run);
      ended = ap (λ (p : Progress g.row.A-Val.Denot). p.ended) claimed.after ∙ c.loop-engine.invariant.ended;
    }

pub returns-in_default : goal.returns-in_default
returns-in_default g c =
    let app = g.A.App.meaning c.args.engine.now.app in
    let answer = subst (λ (app : g.row.A.Denot). IsClaimAnswer (g.A.App.meaning app) c.loop-engine.engine.progress 0 c.claim.new.self.progress c.in_ok-job.field-0) c.loop-engine.invariant.app c.in_ok-job.ensures.answer in
    let same = no_job_changes_nothing app c.loop-engine.engine.progress c.claim.new.self.progress 0 c.in_ok-job.field-0 answer c.in_default.not-Job in
    record {
      app = c.claim.ensures.app ∙ c.loop-engine.invariant.app;
      drawn = subst (λ (now : Progress g.row.A-Val.Denot). HasDrawn app (λ drawn. drawn ≡ c.loop-engine.jobs.items) c.args.engine.now.progress now) (sym same) c.loop-engine.invariant.drawn;
      may_run = c.loop-engine.invariant.may_run;
      ended = ap (λ (p : Progress g.row.A-Val.Denot). p.ended) same ∙ c.loop-engine.invariant.ended;
    }
