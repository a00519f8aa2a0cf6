use Rattle.std.proofs.Common.{◌≡◌, true, ℕ, List, sym}
use Rattle.task_order.specs.declared.task.Task.{Task}
use Rattle.task_order.specs.TaskList.{is_earlier, tasks_before}
use Rattle.logic_sim.specs.Event.{Simulation, time_of}
use Rattle.logic_sim.specs.Lawful.{fixed_sets_are_known}
use Rattle.logic_sim.proofs.Threats.{first_are_safe, fit_before, late_before, none_before}
use Rattle.logic_sim.proofs.circuit.application.CircuitApp.safe.Goals as goal

pub returns-then-none_is_before-clause-answer : goal.returns-then-none_is_before-clause-answer
returns-then-none_is_before-clause-answer g c =
    let self : Simulation = c.args.self.now in
    let task : Task = c.args.task.now in
    let tasks : List Task = g.P.PendingTasks.tasks c.args.pending.now in
    let all : none_before (time_of task.key.prio) tasks ≡ true = sym c.if-none_is_before.ensures.none in
    first_are_safe self c.requires.apart.fit.deck task (tasks_before task.key tasks) (fit_before self (is_earlier task.key) tasks c.requires.pending) c.requires.fit
    (late_before (time_of task.key.prio) (is_earlier task.key) tasks all) c.requires.apart.apart

pub settle-requires-clause-pending : goal.settle-requires-clause-pending
settle-requires-clause-pending g c = record {
  deck = c.requires.apart.fit.deck;
  ascending = c.none_is_before.ensures.ascending;
  fit = c.requires.pending;
  listed = λ loc. c.requires.writers (fixed_sets_are_known c.args.self.now) c.requires.apart.cells loc c.requires.apart.fit;
}

pub is_unthreatened-requires-clause-pending : goal.is_unthreatened-requires-clause-pending
is_unthreatened-requires-clause-pending g c = record {
  deck = c.requires.apart.fit.deck;
  ascending = c.none_is_before.ensures.ascending;
  fit = c.requires.pending;
  listed = λ loc. c.requires.writers (fixed_sets_are_known c.args.self.now) c.requires.apart.cells loc c.requires.apart.fit;
}
