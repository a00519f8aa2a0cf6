use Rattle.logic_sim.specs.Event.{time_of}
use Rattle.logic_sim.proofs.Threats.{earliest_decides, none_is_before}
use Rattle.logic_sim.proofs.circuit.threats.none_is_before.Goals as goal

pub returns-in-Some-clause-none : goal.returns-in-Some-clause-none
returns-in-Some-clause-none g c = earliest_decides (time_of c.args.task.now.key.prio) c.in-Some.first.now (g.P.PendingTasks.tasks c.args.pending.now) c.in-Some.ensures.ascending c.in-Some.ensures.first

pub returns-in-None-clause-none : goal.returns-in-None-clause-none
returns-in-None-clause-none g c = none_is_before (time_of c.args.task.now.key.prio) (g.P.PendingTasks.tasks c.args.pending.now) c.in-None.ensures.first
