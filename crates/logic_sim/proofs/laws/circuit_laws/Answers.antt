use Rattle.logic_sim.specs.DistanceLaws.{gaps_tell}
use Rattle.logic_sim.specs.Lawful.{fixed_sets_are_known}
use Rattle.logic_sim.specs.Safety.{are_lawful, paths_are_ignored}
use Rattle.logic_sim.proofs.laws.circuit_laws.Goals as goal

pub returns-clause-lawful : goal.returns-clause-lawful
returns-clause-lawful context = are_lawful

pub returns-clause-fixed : goal.returns-clause-fixed
returns-clause-fixed context = fixed_sets_are_known

pub returns-clause-paths : goal.returns-clause-paths
returns-clause-paths context = paths_are_ignored

pub returns-clause-gaps : goal.returns-clause-gaps
returns-clause-gaps context = gaps_tell
