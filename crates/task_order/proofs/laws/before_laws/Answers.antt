use Rattle.task_order.specs.TaskList.{is_earlier}
use Rattle.task_order.proofs.Fronts.{before_and_from, all_before, before_skips_later, before_takes_earlier}
use Rattle.task_order.proofs.laws.before_laws.Goals as goal
use Rattle.task_order.specs.TaskListLaws.{IsAscending-filter}

pub returns-clause-front : goal.returns-clause-front
returns-clause-front c = before_and_from

pub returns-clause-earlier : goal.returns-clause-earlier
returns-clause-earlier c = all_before

pub returns-clause-ascending : goal.returns-clause-ascending
returns-clause-ascending c = λ key. IsAscending-filter (is_earlier key)

pub returns-clause-skips_later : goal.returns-clause-skips_later
returns-clause-skips_later c = before_skips_later

pub returns-clause-takes_earlier : goal.returns-clause-takes_earlier
returns-clause-takes_earlier c = before_takes_earlier
