use Rattle.run_laws.proofs.AtRest.{idle_is_sound, no_jobs_are_rest, no_jobs_where_none_runs}
use Rattle.run_laws.proofs.laws.rest_laws.Goals as goal

pub returns-clause-no_jobs : goal.returns-clause-no_jobs
returns-clause-no_jobs g c = λ app. no_jobs_where_none_runs (c.basis.ensures app)

pub returns-clause-rest : goal.returns-clause-rest
returns-clause-rest g c = λ app. no_jobs_are_rest (c.basis.ensures app)

pub returns-clause-idle : goal.returns-clause-idle
returns-clause-idle g c = λ app. idle_is_sound (c.basis.ensures app)
