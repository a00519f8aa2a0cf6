use Rattle.task_order.proofs.TaskLists.{put_all-append, put_all-put_in}
use Rattle.task_order.proofs.Distinct.{IsAscending-put_all, IsPermutation-put_all, put_all_in_any_order}
use Rattle.task_order.proofs.laws.put_all_laws.Goals as goal
use Rattle.task_order.specs.TaskListLaws.{length-put_all}

pub returns-clause-joined : goal.returns-clause-joined
returns-clause-joined c = put_all-append

pub returns-clause-commutes : goal.returns-clause-commutes
returns-clause-commutes c = put_all-put_in

pub returns-clause-any_order : goal.returns-clause-any_order
returns-clause-any_order c = put_all_in_any_order

pub returns-clause-ascending : goal.returns-clause-ascending
returns-clause-ascending c = IsAscending-put_all

pub returns-clause-length : goal.returns-clause-length
returns-clause-length c = length-put_all

pub returns-clause-tasks : goal.returns-clause-tasks
returns-clause-tasks c = IsPermutation-put_all
