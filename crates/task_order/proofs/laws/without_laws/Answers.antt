use Rattle.std.proofs.Common.{not}
use Rattle.task_order.specs.TaskList.{has_key}
use Rattle.task_order.proofs.Without.{without_forgets_put, put_in_restores, without_put_in, without_without, without_new_key, without_others, without_makes_new}
use Rattle.task_order.proofs.laws.without_laws.Goals as goal
use Rattle.task_order.specs.TaskListLaws.{IsAscending-filter}

pub returns-clause-forgets_put : goal.returns-clause-forgets_put
returns-clause-forgets_put c = without_forgets_put

pub returns-clause-restored : goal.returns-clause-restored
returns-clause-restored c = put_in_restores

pub returns-clause-commutes_with_put : goal.returns-clause-commutes_with_put
returns-clause-commutes_with_put c = without_put_in

pub returns-clause-commutes : goal.returns-clause-commutes
returns-clause-commutes c = without_without

pub returns-clause-new_key : goal.returns-clause-new_key
returns-clause-new_key c = without_new_key

pub returns-clause-ascending : goal.returns-clause-ascending
returns-clause-ascending c = λ key. IsAscending-filter (λ task. not (has_key key task))

pub returns-clause-others : goal.returns-clause-others
returns-clause-others c = without_others

pub returns-clause-makes_new : goal.returns-clause-makes_new
returns-clause-makes_new c = without_makes_new
