use Rattle.std.proofs.Common.{◌≡◌}
use Rattle.logic_sim.specs.Wiring.{flip_flops_among}
use Rattle.logic_sim.proofs.tables.flip_flop_numbers.Given as goal

-- the flip-flops so far are listed
abbrev pub invariant-loop-number : goal.invariant-loop-number
invariant-loop-number l = l.numbers ≡ flip_flops_among l.signals l.number
