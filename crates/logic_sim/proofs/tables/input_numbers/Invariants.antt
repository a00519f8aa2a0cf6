use Rattle.std.proofs.Common.{◌≡◌}
use Rattle.logic_sim.specs.Wiring.{inputs_among}
use Rattle.logic_sim.proofs.tables.input_numbers.Given as goal

-- the inputs so far are listed
abbrev pub invariant-loop-number : goal.invariant-loop-number
invariant-loop-number l = l.numbers ≡ inputs_among l.signals l.number
