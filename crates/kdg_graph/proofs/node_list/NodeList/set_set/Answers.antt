use Rattle.std.proofs.Common.{◌≡◌, ◌∙◌, Some, ap, sym, IsTrue}
use Rattle.kdg_graph.proofs.Common.{same_accesses, Node, node_at}
use Rattle.kdg_graph.proofs.Settling.{same_set_changes_none}
use Rattle.kdg_graph.proofs.node_list.NodeList.set_set.Goals as goal

pub returns-then-eq-clause-nodes : goal.returns-then-eq-clause-nodes
returns-then-eq-clause-nodes c =
    let node : Node = record { id = c.behind-nodes.inside.id; task = c.behind-nodes.inside.task; set = c.behind-nodes.inside.set; running = c.behind-nodes.inside.running } in
    let is : node_at c.args.self.now.nodes c.args.id ≡ Some node = ap (λ l. node_at l c.args.id) (sym c.nodes.ensures.all) ∙ c.entry.ensures ∙ ap (λ (n : Node). Some n) (sym c.behind-nodes.view_is) in
    let equal : IsTrue (same_accesses c.behind-nodes.inside.set c.args.set) = sym c.if-eq.ensures in
    let same : c.behind-nodes.inside.set ≡ c.args.set = (c.lookup_laws.ensures.equality c.behind-nodes.inside.set c.args.set).0 equal in
    sym (same_set_changes_none c.args.id node c.args.set c.args.self.now.nodes c.nodes.ensures.graph is same)
