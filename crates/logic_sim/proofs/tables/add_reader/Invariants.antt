use Rattle.std.proofs.Common.{take}
use Rattle.logic_sim.specs.Tables.{AddsReader}
use Rattle.logic_sim.proofs.tables.add_reader.Given as goal

-- the gate is in the lists of its fan-ins so far
abbrev pub invariant-loop-signal : goal.invariant-loop-signal
invariant-loop-signal l = AddsReader l.initial.table.items (take l.signal-index l.fan_in) l.gate l.table.items
