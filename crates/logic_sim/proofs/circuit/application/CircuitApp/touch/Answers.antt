use Rattle.std.proofs.Common.{◌∷◌, ◌++◌, Bool, List, sym, subst}
use Rattle.task_order.specs.TaskList.{put_in}
use Rattle.logic_sim.specs.Horizon.{IsKept}
use Rattle.logic_sim.proofs.Touches.{told_of_new, told_of_others}
use Rattle.logic_sim.proofs.circuit.application.CircuitApp.touch.Goals as goal

pub returns-clause-came : goal.returns-clause-came
returns-clause-came c = λ task tasks is told.
    let horizon = c.args.horizon.now in
    subst (λ (waits : List Bool). IsKept c.args.self.now horizon.near.items horizon.entries.items waits (put_in task tasks)) (sym c.put.ensures)
    (told_of_new c.args.self.now horizon.near.items horizon.entries.items horizon.stale c.args.body.now task tasks is told)

pub returns-clause-went : goal.returns-clause-went
returns-clause-went c = λ task before after is told.
    let horizon = c.args.horizon.now in
    subst (λ (waits : List Bool). IsKept c.args.self.now horizon.near.items horizon.entries.items waits (before ++ after)) (sym c.put.ensures)
    (told_of_others c.args.self.now horizon.near.items horizon.entries.items horizon.stale c.args.body.now task before after is told)
