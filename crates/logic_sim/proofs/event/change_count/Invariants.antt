use Rattle.std.proofs.Common.{◌≡◌, length, take}
use Rattle.logic_sim.specs.Circuit.{changes_of}
use Rattle.logic_sim.proofs.event.change_count.Given as goal

-- the changes of the stimuli so far are counted
abbrev pub invariant-loop-stimulus : goal.invariant-loop-stimulus
invariant-loop-stimulus l = l.count ≡ length (changes_of l.until l.inputs (take l.stimulus-index l.stimuli))
