use Rattle.std.proofs.Common.{◌≡◌, map, take}
use Rattle.rw_sets.specs.declared.access.Access.TheVariants.{Read}
use Rattle.logic_sim.specs.Event.{value_place}
use Rattle.logic_sim.proofs.tables.value_reads.Given as goal

-- the signals so far are read
abbrev pub invariant-loop-signal : goal.invariant-loop-signal
invariant-loop-signal l = l.pairs.items ≡ map (λ signal. (value_place signal, Read)) (take l.signal-index l.signals)
