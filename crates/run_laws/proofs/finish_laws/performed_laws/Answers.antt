use Rattle.run_laws.proofs.PerformedTasks.{performed_tasks_are_known}
use Rattle.run_laws.proofs.finish_laws.performed_laws.Goals as goal

pub returns : goal.returns
returns g c = λ app. performed_tasks_are_known (c.finish_basis.ensures app)
