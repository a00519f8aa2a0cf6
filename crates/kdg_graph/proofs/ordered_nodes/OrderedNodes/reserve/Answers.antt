use Rattle.std.proofs.Common.{ap}
use Rattle.kdg_graph.proofs.Common.{Slab, Node}
use Rattle.kdg_graph.proofs.Stored.{room_stored}
use Rattle.kdg_graph.proofs.ordered_nodes.OrderedNodes.reserve.Goals as goal

pub invariant_of-self : goal.invariant_of-self
invariant_of-self c = room_stored c.self.inside.slots c.reserve.new.self (ap (λ (s : Slab Node). s.slots) c.reserve.ensures.rest_kept) c.self.invariant

pub invariant_of-self-2 : goal.invariant_of-self-2
invariant_of-self-2 c = room_stored c.self.inside.slots c.reserve.new.self (ap (λ (s : Slab Node). s.slots) c.reserve.ensures.rest_kept) c.self.invariant
