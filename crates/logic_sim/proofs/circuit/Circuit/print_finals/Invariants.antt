use Rattle.std.proofs.Common.{◌≡◌, take}
use Rattle.std.specs.List.{flat_map}
use Rattle.cell_store.specs.Values.{values_of}
use Rattle.logic_sim.specs.Event.{final_line, value_in}
use Rattle.logic_sim.specs.Wiring.{signal_at}
use Rattle.logic_sim.proofs.circuit.Circuit.print_finals.Given as goal

-- the outputs so far are printed
abbrev pub invariant-loop-output : goal.invariant-loop-output
invariant-loop-output l = l.text ≡ flat_map (λ output. final_line (signal_at l.signals output).name (value_in (values_of l.store) output)) (take l.output-index l.output-items)
