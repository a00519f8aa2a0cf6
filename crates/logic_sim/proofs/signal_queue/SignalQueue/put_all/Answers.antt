use Rattle.std.proofs.Common.{◌≡◌, ◌∙◌, ℕ, ◌<◌, Bool, true, false, List, get_or, length, set, ap, sym, subst, arith, length-set}
use Rattle.logic_sim.proofs.Queues.{all_wait, waits_more}
use Rattle.logic_sim.proofs.signal_queue.SignalQueue.put_all.Goals as goal

pub loop-signal-preserved : goal.loop-signal-preserved
loop-signal-preserved c =
    let counts : length c.loop-signal.self ≡ c.len-count.result = c.loop-signal.invariant.same_count ∙ sym c.loop-signal.invariant.is_count in
    record {
      same_count = ap length c.put.ensures ∙ length-set c.loop-signal.self c.loop-signal.signal true ∙ c.loop-signal.invariant.same_count;
      is_count = c.loop-signal.invariant.is_count;
      all_wait = λ k inside.
          ap (λ (waits : List Bool). get_or waits k false) c.put.ensures
          ∙ waits_more c.loop-signal.self c.len-count.result c.loop-signal.signal c.loop-signal-test.true counts c.loop-signal.invariant.all_wait k inside;
    }

pub returns : goal.returns
returns c =
    all_wait c.loop-signal.self (length c.args.self.now) c.loop-signal.invariant.same_count
    (λ k below. c.loop-signal.invariant.all_wait k (omega (arith, below, c.loop-signal.invariant.is_count, c.loop-signal-test.false)))
