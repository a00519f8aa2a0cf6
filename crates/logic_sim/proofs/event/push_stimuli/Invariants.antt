use Rattle.std.proofs.Common.{◌≡◌, ◌++◌, take}
use Rattle.logic_sim.specs.Circuit.{changes_of}
use Rattle.logic_sim.proofs.event.push_stimuli.Given as goal

-- the changes of the stimuli so far are there
abbrev pub invariant-loop-stimulus : goal.invariant-loop-stimulus
invariant-loop-stimulus l = l.made ≡ l.initial.made ++ changes_of l.until l.inputs (take l.stimulus-index l.stimuli)
