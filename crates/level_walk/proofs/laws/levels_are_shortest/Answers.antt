use Rattle.level_walk.proofs.Shortest.{levels_are_shortest, logs_are_visits}
use Rattle.level_walk.proofs.laws.levels_are_shortest.Goals as goal

pub returns-clause-shortest : goal.returns-clause-shortest
returns-clause-shortest c = levels_are_shortest c.execution_laws.ensures.stops

pub returns-clause-logs : goal.returns-clause-logs
returns-clause-logs c = logs_are_visits
