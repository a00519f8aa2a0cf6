use Rattle.std.proofs.Common.{arith, rules}
use Rattle.logic_sim.specs.Event.{Simulation}
use Rattle.logic_sim.specs.Laws.{start_tasks-few, start_tasks-fit}
use Rattle.logic_sim.proofs.circuit.Circuit.first_tasks.Goals as goal

pub returns-clause-fit : goal.returns-clause-fit
returns-clause-fit c =
    let inside : Simulation = record { deck = c.self.inside.deck; until = c.self.inside.until; clock = c.self.inside.clock } in
    let fit = start_tasks-fit inside c.self.invariant.deck_read in search (rules, fit)

pub returns-clause-few : goal.returns-clause-few
returns-clause-few c =
    let inside : Simulation = record { deck = c.self.inside.deck; until = c.self.inside.until; clock = c.self.inside.clock } in
    let few = start_tasks-few inside c.self.invariant.deck_read in search (rules, arith, few)
