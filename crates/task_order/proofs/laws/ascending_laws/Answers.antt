use Rattle.task_order.proofs.Distinct.{distinct_from_ascending, distinct_in_any_order, same_from_permutation}
use Rattle.task_order.proofs.laws.ascending_laws.Goals as goal

pub returns-clause-distinct : goal.returns-clause-distinct
returns-clause-distinct c = distinct_from_ascending

pub returns-clause-determined : goal.returns-clause-determined
returns-clause-determined c = same_from_permutation

pub returns-clause-any_order : goal.returns-clause-any_order
returns-clause-any_order c = distinct_in_any_order
