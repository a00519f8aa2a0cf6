use Rattle.std.proofs.Common.{◌≡◌}
use Rattle.logic_sim.specs.Tables.{sets_among}
use Rattle.logic_sim.proofs.tables.evaluation_sets.Given as goal

-- the signals so far have their sets
abbrev pub invariant-loop-number : goal.invariant-loop-number
invariant-loop-number l = l.sets.items ≡ sets_among l.signals l.number
