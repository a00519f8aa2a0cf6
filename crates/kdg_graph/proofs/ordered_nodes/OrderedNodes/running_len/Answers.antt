use Rattle.std.proofs.Common.{rules, ◌≡◌, ◌∙◌, ℕ, ap, filter, length}
use Rattle.std.proofs.lemmas.Iterator.Consumers.{YieldsList-from_filter, YieldsList-from_first, count_from_yields_List}
use Rattle.kdg_graph.proofs.Common.{entries, Node, NodeShelf}
use Rattle.kdg_graph.proofs.Stored.{count_stored}
use Rattle.kdg_graph.proofs.ordered_nodes.OrderedNodes.running_len.Goals as goal

pub returns : goal.returns
returns c =
    let running : ℕ × Node → _ = λ entry. entry.1.running in
    let counted : c.count.result ≡ length (filter running (entries c.self.inside.slots)) =
    count_from_yields_List c.filter.result c.count.result c.count.ensures.ran
    (YieldsList-from_filter _ running (YieldsList-from_first (λ item. (item.0, item.1.now)) (λ rest. rest) (entries c.self.inside.slots) (c.filter.ensures.source ∙ c.iter.ensures.rest)) c.filter.ensures.closure (λ x b q k. search rules)) in
    counted ∙ count_stored (λ (node : Node). node.running) c.self.inside.slots ∙ ap (λ (shelf : NodeShelf). length (filter (λ (node : Node). node.running) shelf.nodes)) c.self.view_is
