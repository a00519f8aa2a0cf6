use Rattle.commuting.proofs.Pairs.{stays_ready, independent_tasks_commute, independent_tasks_leave_alone}
use Rattle.commuting.proofs.laws.independent_tasks_commute.Goals as goal

pub returns-clause-ready : goal.returns-clause-ready
returns-clause-ready g c = λ app. stays_ready (c.basis.ensures app)

pub returns-clause-commute : goal.returns-clause-commute
returns-clause-commute g c = λ app. independent_tasks_commute (c.basis.ensures app)

pub returns-clause-left_alone : goal.returns-clause-left_alone
returns-clause-left_alone g c = λ app. independent_tasks_leave_alone (c.basis.ensures app)
