use Rattle.commuting.proofs.Clearing.{clear_tasks_commute}
use Rattle.commuting.proofs.laws.clear_tasks_commute.Goals as goal

pub returns : goal.returns
returns g c = record { one = λ app. clear_tasks_commute (c.basis.ensures app) }
