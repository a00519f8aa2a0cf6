use Rattle.app_laws.proofs.Runs.{runs_begin, greater_limits_agree, logs_grow}
use Rattle.app_laws.proofs.Steps.{steps_add, stops_when_clear, logs_each_step, created_never_falls, ends_within_limit}
use Rattle.app_laws.proofs.laws.execution_laws.Goals as goal

pub returns-clause-adds : goal.returns-clause-adds
returns-clause-adds g c = steps_add

pub returns-clause-stops : goal.returns-clause-stops
returns-clause-stops g c = stops_when_clear

pub returns-clause-created : goal.returns-clause-created
returns-clause-created g c = created_never_falls

pub returns-clause-logs : goal.returns-clause-logs
returns-clause-logs g c = logs_each_step

pub returns-clause-ends : goal.returns-clause-ends
returns-clause-ends g c = ends_within_limit

pub returns-clause-begins : goal.returns-clause-begins
returns-clause-begins g c = runs_begin

pub returns-clause-greater_limits : goal.returns-clause-greater_limits
returns-clause-greater_limits g c = greater_limits_agree

pub returns-clause-grows : goal.returns-clause-grows
returns-clause-grows g c = logs_grow
