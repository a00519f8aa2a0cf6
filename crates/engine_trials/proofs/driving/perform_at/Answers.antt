use Rattle.std.proofs.Common.{sym, subst}
use Rattle.app_laws.specs.Applications.{IsEffect}
use Rattle.crew.specs.Jobs.{MayRun}
use Rattle.engine_trials.proofs.Hands.{done_beside, is_done, may_run_at}
use Rattle.engine_trials.proofs.driving.perform_at.Goals as goal

pub perform-requires-after_bounds : goal.perform-requires-after_bounds
perform-requires-after_bounds g c κs within =
    subst (λ (own : g.row.A.Denot). MayRun (g.A.App.meaning own) c.remove-job.result) (sym c.app.ensures)
    (may_run_at (g.A.App.meaning c.args.engine.now.app) c.args.engine.now.progress c.args.jobs.now.items c.args.place c.remove-job.result
    (c.job_laws.ensures c.args.engine.now.app) c.requires.in_hand c.requires.place c.remove-job.ensures.value)

pub returns-in-Ok-clause-beside : goal.returns-in-Ok-clause-beside
returns-in-Ok-clause-beside g c =
    done_beside (g.A.App.meaning c.args.engine.now.app) c.args.engine.now.progress c.args.jobs.now.items c.remove-job.new.self.items c.args.place c.remove-job.result c.in-Ok.done
    c.requires.in_hand c.requires.place c.remove-job.ensures.value c.remove-job.ensures.by_index.2 c.in-Ok.ensures.node c.in-Ok.ensures.task
    (subst (λ (own : g.row.A.Denot). IsEffect (g.A.App.meaning own) c.remove-job.result.task c.remove-job.result.bundle c.in-Ok.done.effect) c.app.ensures c.in-Ok.ensures.effect)

pub returns-in-Ok-clause-done : goal.returns-in-Ok-clause-done
returns-in-Ok-clause-done g c =
    is_done (g.A.App.meaning c.args.engine.now.app) c.args.engine.now.progress c.remove-job.new.self.items c.in-Ok.done (returns-in-Ok-clause-beside g c)
