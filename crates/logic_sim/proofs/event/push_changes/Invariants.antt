use Rattle.std.proofs.Common.{◌≡◌, ◌++◌, length}
use Rattle.logic_sim.specs.Circuit.{changes_at}
use Rattle.logic_sim.proofs.event.push_changes.Given as goal

-- the changes so far, and then those of the other inputs, are all changes
abbrev pub invariant-loop-inputs : goal.invariant-loop-inputs
invariant-loop-inputs l = l.made ++ changes_at l.time l.inputs l.values ≡ l.initial.made ++ changes_at l.time l.initial.inputs l.initial.values

abbrev pub decreases-loop-inputs : goal.decreases-loop-inputs
decreases-loop-inputs l = length l.inputs
