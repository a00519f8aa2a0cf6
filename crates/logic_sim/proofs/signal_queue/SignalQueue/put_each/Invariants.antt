use Rattle.std.proofs.Common.{take}
use Rattle.logic_sim.specs.Queue.{AreAdded}
use Rattle.logic_sim.proofs.signal_queue.SignalQueue.put_each.Given as goal

-- the signals so far wait too
abbrev pub invariant-loop-signal : goal.invariant-loop-signal
invariant-loop-signal l = AreAdded l.fn.self (take l.signal-index l.signals) l.self
