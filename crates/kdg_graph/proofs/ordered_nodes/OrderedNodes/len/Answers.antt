use Rattle.std.proofs.Common.{◌∙◌, ap, length, subst}
use Rattle.kdg_graph.proofs.Common.{IsGraph, NodeShelf}
use Rattle.kdg_graph.proofs.Stored.{length_stored}
use Rattle.kdg_graph.proofs.ordered_nodes.OrderedNodes.len.Goals as goal

pub returns-clause-len : goal.returns-clause-len
returns-clause-len c = c.len.ensures ∙ length_stored c.self.inside.slots ∙ ap (λ (shelf : NodeShelf). length shelf.nodes) c.self.view_is

pub returns-clause-graph : goal.returns-clause-graph
returns-clause-graph c = subst (λ (shelf : NodeShelf). IsGraph shelf.nodes) c.self.view_is c.self.invariant.graph
