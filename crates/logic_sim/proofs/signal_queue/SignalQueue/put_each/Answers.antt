use Rattle.std.proofs.Common.{◌≡◌, ◌+◌, Bool, List, take, sym, subst}
use Rattle.logic_sim.specs.Queue.{AreAdded}
use Rattle.logic_sim.proofs.Queues.{added_more, added_none}
use Rattle.logic_sim.proofs.signal_queue.SignalQueue.put_each.Goals as goal

pub loop-signal-init : goal.loop-signal-init
loop-signal-init c = added_none c.args.self.now

pub loop-signal-preserved : goal.loop-signal-preserved
loop-signal-preserved c =
    subst (λ (waits : List Bool). AreAdded c.args.self.now (take (c.loop-signal.signal-index + 1) c.args.signals.now) waits) (sym c.put.ensures)
    (added_more c.args.self.now c.loop-signal.self c.args.signals.now c.loop-signal.signal-index c.loop-signal-test.true c.loop-signal.invariant)
