use Rattle.std.proofs.Common.{take}
use Rattle.logic_sim.specs.Tables.{MarksOutputs}
use Rattle.logic_sim.proofs.tables.output_marks.Given as goal

-- the outputs so far are marked
abbrev pub invariant-loop-output : goal.invariant-loop-output
invariant-loop-output l = MarksOutputs (take l.output-index l.outputs) l.signals l.marks.items
