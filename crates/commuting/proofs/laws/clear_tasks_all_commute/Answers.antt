use Rattle.commuting.proofs.Several.{clear_tasks_stay_clear_in_turn, clear_tasks_act_in_any_order, clear_tasks_may_all_act_at_once}
use Rattle.commuting.proofs.laws.clear_tasks_all_commute.Goals as goal

pub returns-clause-in_turn : goal.returns-clause-in_turn
returns-clause-in_turn g c = λ app. clear_tasks_stay_clear_in_turn (c.basis.ensures app)

pub returns-clause-any_order : goal.returns-clause-any_order
returns-clause-any_order g c = λ app. clear_tasks_act_in_any_order (c.basis.ensures app)

pub returns-clause-runs : goal.returns-clause-runs
returns-clause-runs g c = λ app. clear_tasks_may_all_act_at_once (c.basis.ensures app)
