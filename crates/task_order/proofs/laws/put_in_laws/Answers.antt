use Rattle.task_order.proofs.TaskLists.{put_in-put_in, IsAscending-put_in, IsPermutation-put_in, new_key_put_in, put_in-first, put_in-last}
use Rattle.task_order.proofs.Fronts.{put_in-between}
use Rattle.task_order.proofs.laws.put_in_laws.Goals as goal
use Rattle.task_order.specs.TaskListLaws.{length-put_in}

pub returns-clause-commutes : goal.returns-clause-commutes
returns-clause-commutes c = put_in-put_in

pub returns-clause-ascending : goal.returns-clause-ascending
returns-clause-ascending c = IsAscending-put_in

pub returns-clause-length : goal.returns-clause-length
returns-clause-length c = length-put_in

pub returns-clause-tasks : goal.returns-clause-tasks
returns-clause-tasks c = IsPermutation-put_in

pub returns-clause-new_keys : goal.returns-clause-new_keys
returns-clause-new_keys c = new_key_put_in

pub returns-clause-earliest_first : goal.returns-clause-earliest_first
returns-clause-earliest_first c = put_in-first

pub returns-clause-latest_last : goal.returns-clause-latest_last
returns-clause-latest_last c = put_in-last

pub returns-clause-between : goal.returns-clause-between
returns-clause-between c = put_in-between
