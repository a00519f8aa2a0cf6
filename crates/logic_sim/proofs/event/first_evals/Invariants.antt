use Rattle.std.proofs.Common.{◌≡◌, map}
use Rattle.logic_sim.specs.Event.{eval_at}
use Rattle.logic_sim.specs.Wiring.{gates_among}
use Rattle.logic_sim.proofs.event.first_evals.Given as goal

-- the gates so far are to be evaluated
abbrev pub invariant-loop-number : goal.invariant-loop-number
invariant-loop-number l = l.starts ≡ map (eval_at 0) (gates_among l.signals l.number)
