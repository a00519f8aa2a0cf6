use Rattle.logic_sim.specs.Safety.{paths_are_ignored}
use Rattle.logic_sim.proofs.Touches.{told_under_names}
use Rattle.logic_sim.proofs.circuit.application.CircuitApp.ignores_paths.Goals as goal

pub returns-clause-known : goal.returns-clause-known
returns-clause-known c = λ told. paths_are_ignored c.args.self.now

pub returns-clause-horizon : goal.returns-clause-horizon
returns-clause-horizon c = λ told horizon. told_under_names c.args.self.now horizon
