use Rattle.std.proofs.Common.{◌≡◌, ◌∙◌, Some, ap, subst, sym}
use Rattle.kdg_graph.proofs.Common.{get, Node, HasNode, started, NodeShelf}
use Rattle.kdg_graph.proofs.Stored.{key_of, started_stored}
use Rattle.kdg_graph.proofs.ordered_nodes.OrderedNodes.mark_running.Goals as goal

pub index_mut-named-requires : goal.index_mut-named-requires
index_mut-named-requires c = key_of c.self.inside.slots c.args.id c.self.invariant (subst (λ (shelf : NodeShelf). HasNode shelf.nodes c.args.id) (sym c.self.view_is) c.requires)

pub invariant_of-self : goal.invariant_of-self
invariant_of-self c =
    let node : Node = record { id = c.named.inside.id; task = c.named.inside.task; set = c.named.inside.set; running = c.named.inside.running } in
    let found : get c.self.inside.slots c.args.id.at ≡ Some node = c.index_mut-named.ensures.value ∙ ap (λ (n : Node). Some n) (sym c.named.view_is) in
    (started_stored c.self.inside.slots c.args.id node c.self.invariant found).0

pub returns-clause-nodes : goal.returns-clause-nodes
returns-clause-nodes c =
    let node : Node = record { id = c.named.inside.id; task = c.named.inside.task; set = c.named.inside.set; running = c.named.inside.running } in
    let found : get c.self.inside.slots c.args.id.at ≡ Some node = c.index_mut-named.ensures.value ∙ ap (λ (n : Node). Some n) (sym c.named.view_is) in
    (started_stored c.self.inside.slots c.args.id node c.self.invariant found).1 ∙ ap (λ (shelf : NodeShelf). started c.args.id shelf.nodes) c.self.view_is

pub returns-clause-graph : goal.returns-clause-graph
returns-clause-graph c = (invariant_of-self c).graph
