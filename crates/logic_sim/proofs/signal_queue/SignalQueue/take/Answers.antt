use Rattle.std.proofs.Common.{◌≡◌, ◌∙◌, ◌<◌, ◌∷◌, Bool, true, false, List, ℕ, get_or, length, set, ap, sym, subst, arith, refl, deque_capacity}
use Rattle.logic_sim.specs.Queue.{IsQueue}
use Rattle.logic_sim.proofs.Queues.{first_below, first_waits, none_wait, queue_take}
use Rattle.logic_sim.proofs.signal_queue.SignalQueue.take.Goals as goal

pub index_mut-requires : goal.index_mut-requires
index_mut-requires c =
    let first : c.self.inside.order.items ≡ c.in-Some.signal ∷ c.pop_front.new.self.items = c.in-Some.ensures.items in
    omega (arith, first_below c.self.inside.waits.items c.self.inside.order.items c.pop_front.new.self.items (deque_capacity c.self.inside.order) c.in-Some.signal c.self.invariant first, c.self.inside.waits.ok.0)

pub invariant_of-self : goal.invariant_of-self
invariant_of-self c =
    let first : c.self.inside.order.items ≡ c.in-Some.signal ∷ c.pop_front.new.self.items = c.in-Some.ensures.items in
    let queue = queue_take c.self.inside.waits.items c.self.inside.order.items c.pop_front.new.self.items (deque_capacity c.self.inside.order) c.in-Some.signal c.self.invariant first in
    rw c.in-Some.ensures.capacity queue

pub returns-in-Some : goal.returns-in-Some
returns-in-Some c =
    let first : c.self.inside.order.items ≡ c.in-Some.signal ∷ c.pop_front.new.self.items = c.in-Some.ensures.items in
    let below : c.in-Some.signal < length c.self.inside.waits.items = first_below c.self.inside.waits.items c.self.inside.order.items c.pop_front.new.self.items (deque_capacity c.self.inside.order) c.in-Some.signal c.self.invariant first in
    let waits : get_or c.self.inside.waits.items c.in-Some.signal false ≡ true = first_waits c.self.inside.waits.items c.self.inside.order.items c.pop_front.new.self.items (deque_capacity c.self.inside.order) c.in-Some.signal c.self.invariant first in (
      omega (arith, below, ap (λ (all : List Bool). length all) c.self.view_is),
      sym (ap (λ (all : List Bool). get_or all c.in-Some.signal false) c.self.view_is) ∙ waits,
      ap (λ (all : List Bool). set all c.in-Some.signal false) c.self.view_is,
    )
