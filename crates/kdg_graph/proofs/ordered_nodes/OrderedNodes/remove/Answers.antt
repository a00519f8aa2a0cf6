use Rattle.std.proofs.Common.{◌∙◌, ap, subst, sym}
use Rattle.kdg_graph.proofs.Common.{HasNode, node_at, NodeShelf, without}
use Rattle.kdg_graph.proofs.Stored.{entry_of, key_of, removed_stored}
use Rattle.kdg_graph.proofs.ordered_nodes.OrderedNodes.remove.Goals as goal

pub remove-requires : goal.remove-requires
remove-requires c = key_of c.self.inside.slots c.args.id c.self.invariant (subst (λ (shelf : NodeShelf). HasNode shelf.nodes c.args.id) (sym c.self.view_is) c.requires)

pub invariant_of-self : goal.invariant_of-self
invariant_of-self c = (removed_stored c.self.inside.slots c.remove.new.self c.args.id c.self.invariant c.remove.ensures.updates).0

pub returns-clause-node : goal.returns-clause-node
returns-clause-node c =
    ap (λ (shelf : NodeShelf). node_at shelf.nodes c.args.id) (sym c.self.view_is)
    ∙ sym (entry_of c.self.inside.slots c.args.id c.self.invariant (subst (λ (shelf : NodeShelf). HasNode shelf.nodes c.args.id) (sym c.self.view_is) c.requires))
    ∙ c.remove.ensures.value

pub returns-clause-nodes : goal.returns-clause-nodes
returns-clause-nodes c = (removed_stored c.self.inside.slots c.remove.new.self c.args.id c.self.invariant c.remove.ensures.updates).1 ∙ ap (λ (shelf : NodeShelf). without c.args.id shelf.nodes) c.self.view_is

pub returns-clause-graph : goal.returns-clause-graph
returns-clause-graph c = (invariant_of-self c).graph
