use Rattle.std.proofs.Common.{◌∙◌, ap, subst, sym}
use Rattle.kdg_graph.proofs.Common.{HasNode, node_at, NodeShelf}
use Rattle.kdg_graph.proofs.Stored.{entry_of, key_of}
use Rattle.kdg_graph.proofs.ordered_nodes.OrderedNodes.entry.Goals as goal

pub index-requires : goal.index-requires
index-requires c = key_of c.self.inside.slots c.args.id c.self.invariant (subst (λ (shelf : NodeShelf). HasNode shelf.nodes c.args.id) (sym c.self.view_is) c.requires)

pub returns : goal.returns
returns c =
    ap (λ (shelf : NodeShelf). node_at shelf.nodes c.args.id) (sym c.self.view_is)
    ∙ sym (entry_of c.self.inside.slots c.args.id c.self.invariant (subst (λ (shelf : NodeShelf). HasNode shelf.nodes c.args.id) (sym c.self.view_is) c.requires))
    ∙ c.index.ensures
