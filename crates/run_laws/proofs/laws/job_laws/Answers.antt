use Rattle.run_laws.proofs.JobsInHand.{jobs_may_run}
use Rattle.run_laws.proofs.laws.job_laws.Goals as goal

pub returns : goal.returns
returns g c = λ app. jobs_may_run (c.basis.ensures app)
