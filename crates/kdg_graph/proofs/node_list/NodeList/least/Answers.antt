use Rattle.std.proofs.Common.{◌∙◌, List, None, ap, slice_get}
use Rattle.kdg_graph.proofs.Common.{NodeId, NodeStock, least_of}
use Rattle.kdg_graph.proofs.Left.{least_left, left_at_start, settled_first}
use Rattle.kdg_graph.proofs.node_list.NodeList.least.Goals as goal

pub earliest-requires-clause-settled : goal.earliest-requires-clause-settled
earliest-requires-clause-settled c =
    let s = c.self.inside in
    let left = c.settled_from-first.ensures.left ∙ left_at_start s.nodes.nodes s.sources c.self.invariant.0.some.in_order in
    c.get-settled.ensures.id ∙ ap (λ (l : List NodeId). slice_get l c.settled_from-first.result) c.settled.ensures ∙ settled_first s.nodes.nodes s.sources c.settled_from-first.result None left c.settled_from-first.ensures.next

pub returns : goal.returns
returns c = c.earliest.ensures ∙ least_left c.self.inside.nodes.nodes c.self.inside.sources c.self.invariant.0.graph c.self.invariant.0.unblocked_are ∙ ap (λ (stock : NodeStock). least_of stock.nodes) c.self.view_is
