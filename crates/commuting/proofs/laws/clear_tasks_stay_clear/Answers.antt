use Rattle.commuting.proofs.Pairs.{clear_tasks_stay_clear, clear_tasks_are_independent, earliest_is_clear}
use Rattle.commuting.proofs.laws.clear_tasks_stay_clear.Goals as goal

pub returns-clause-stay : goal.returns-clause-stay
returns-clause-stay g c = λ app. clear_tasks_stay_clear (c.basis.ensures app)

pub returns-clause-independent : goal.returns-clause-independent
returns-clause-independent g c = λ app. clear_tasks_are_independent (c.basis.ensures app)

pub returns-clause-earliest : goal.returns-clause-earliest
returns-clause-earliest g c = λ app. earliest_is_clear (c.basis.ensures app)
