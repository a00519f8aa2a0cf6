use Rattle.std.proofs.Common.{take}
use Rattle.logic_sim.specs.Horizon.{IsLeast, any_near}
use Rattle.logic_sim.proofs.horizon.Horizon.least_near.Given as goal

-- the least time of the signals so far
abbrev pub invariant-loop-signal : goal.invariant-loop-signal
invariant-loop-signal l = IsLeast l.least (any_near l.self.near.items (take l.signal-index l.signals))
