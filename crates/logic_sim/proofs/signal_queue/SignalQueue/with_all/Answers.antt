use Rattle.std.proofs.Common.{◌≡◌, [], Bool, false, List, ℕ, replicate, rules, arith, deque_capacity}
use Rattle.logic_sim.proofs.Queues.{queue_none}
use Rattle.logic_sim.proofs.signal_queue.SignalQueue.with_all.Goals as goal

pub invariant_of-queue : goal.invariant_of-queue
invariant_of-queue c =
    let waits : c.in_ok-vec.field-0.items ≡ replicate c.args.count false = search rules in
    let order : c.in_ok-with_capacity.field-0.items ≡ [] = c.in_ok-with_capacity.ensures.items in
    let room : deque_capacity c.in_ok-with_capacity.field-0 ≡ c.args.count = c.in_ok-with_capacity.ensures.exact in
    rw (waits, order, room) (queue_none c.args.count c.args.count (omega arith))
