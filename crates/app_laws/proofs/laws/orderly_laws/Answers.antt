use Rattle.app_laws.proofs.Ordered.{start_orderly, start_fit, stays_fit, stays_orderly}
use Rattle.app_laws.proofs.Running.{keeps_fit, not_earlier}
use Rattle.app_laws.proofs.Runs.{bounded_runs_log_a_part}
use Rattle.app_laws.proofs.laws.orderly_laws.Goals as goal

pub returns-clause-starts_orderly : goal.returns-clause-starts_orderly
returns-clause-starts_orderly g c = start_orderly c.lower_laws.ensures

pub returns-clause-starts_fit : goal.returns-clause-starts_fit
returns-clause-starts_fit g c = λ app. start_fit (g.A.App.meaning app).is_fit_cells (g.A.App.meaning app).is_fit_task

pub returns-clause-stays_fit : goal.returns-clause-stays_fit
returns-clause-stays_fit g c = λ app.
    stays_fit (g.A.App.meaning app).is_fit_cells (g.A.App.meaning app).is_fit_task (g.A.App.meaning app).act (keeps_fit (g.A.App.meaning app) (c.lawful.ensures app))

pub returns-clause-stays_orderly : goal.returns-clause-stays_orderly
returns-clause-stays_orderly g c = λ app.
    stays_orderly c.lower_laws.ensures (g.A.App.meaning app).is_fit_cells (g.A.App.meaning app).is_fit_task (g.A.App.meaning app).act
    (keeps_fit (g.A.App.meaning app) (c.lawful.ensures app)) (not_earlier (g.A.App.meaning app) (c.lawful.ensures app))

pub returns-clause-logs_a_part : goal.returns-clause-logs_a_part
returns-clause-logs_a_part g c = λ app.
    bounded_runs_log_a_part (g.A.App.meaning app).is_fit_cells (g.A.App.meaning app).is_fit_task (g.A.App.meaning app).act c.lower_laws.ensures
    (keeps_fit (g.A.App.meaning app) (c.lawful.ensures app)) (not_earlier (g.A.App.meaning app) (c.lawful.ensures app))
