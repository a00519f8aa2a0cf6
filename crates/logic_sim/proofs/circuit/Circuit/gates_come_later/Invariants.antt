use Rattle.std.proofs.Common.{◌≡◌, true, take}
use Rattle.std.specs.Prelude.{nat_le, slice_index}
use Rattle.std.specs.List.{list_all}
use Rattle.logic_sim.proofs.circuit.Circuit.gates_come_later.Given as goal

-- nothing comes to the gates so far
abbrev pub invariant-loop-gate : goal.invariant-loop-gate
invariant-loop-gate l = list_all (λ gate. nat_le l.time (slice_index l.horizon.entries.items gate)) (take l.gate-index l.gates) ≡ true
