use Rattle.std.proofs.Common.{◌≡◌, map, take}
use Rattle.logic_sim.specs.Bundles.{child_of}
use Rattle.logic_sim.specs.Event.{eval_at}
use Rattle.logic_sim.proofs.circuit.Circuit.evaluations.Given as goal

-- the gates so far are to be evaluated
abbrev pub invariant-loop-gate : goal.invariant-loop-gate
invariant-loop-gate l = l.children ≡ map (child_of l.self) (map (eval_at l.time) (take l.gate-index l.gate-items))
