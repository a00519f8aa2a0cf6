use Rattle.std.proofs.Common.{rules, ◌≡◌, ◌∙◌, Bool, true, false, List, ℕ, get_or, ap, sym, subst, arith, deque_len, deque_capacity, length}
use Rattle.logic_sim.specs.Queue.{IsQueue}
use Rattle.logic_sim.proofs.Queues.{has_room, put_idle, queue_put}
use Rattle.logic_sim.proofs.signal_queue.SignalQueue.put.Goals as goal

pub push_back_reserved-requires : goal.push_back_reserved-requires
push_back_reserved-requires c =
    let lacks : get_or c.self.inside.waits.items c.args.signal true ≡ false =
    ap (λ (waits : List Bool). get_or waits c.args.signal true) c.self.view_is ∙ sym c.has_or_lacks_place.ensures ∙ c.if-has_or_lacks_place.false in
    let whole : deque_len c.self.inside.order ≡ length c.self.inside.order.items = search rules in
    let room = has_room c.self.inside.waits.items c.self.inside.order.items (deque_capacity c.self.inside.order) c.args.signal c.self.invariant lacks in
    omega (arith, whole, room)

pub invariant_of-self : goal.invariant_of-self
invariant_of-self c =
    let lacks : get_or c.self.inside.waits.items c.args.signal true ≡ false =
    ap (λ (waits : List Bool). get_or waits c.args.signal true) c.self.view_is ∙ sym c.has_or_lacks_place.ensures ∙ c.if-has_or_lacks_place.false in
    let queue = queue_put c.self.inside.waits.items c.self.inside.order.items (deque_capacity c.self.inside.order) c.args.signal c.self.invariant lacks in
    rw (c.push_back_reserved.ensures.items, c.push_back_reserved.ensures.capacity) queue
