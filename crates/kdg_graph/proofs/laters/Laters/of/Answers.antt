use Rattle.std.proofs.Common.{◌≡◌, ◌∙◌, Some, ap, refl, sym}
use Rattle.kdg_graph.proofs.Common.{Node, node_at}
use Rattle.kdg_graph.proofs.laters.Laters.of.Goals as goal

pub invariant_of-result : goal.invariant_of-result
invariant_of-result c =
    let node : Node = record { id = c.node.inside.id; task = c.node.inside.task; set = c.node.inside.set; running = c.node.inside.running } in
    let found : node_at c.args.nodes.now.nodes c.args.id ≡ Some node = c.entry-node.ensures ∙ ap (λ (n : Node). Some n) (sym c.node.view_is) in
    (record { key_of = record { node = node; there = found; key_is = refl }; filed = c.requires.filed }, c.requires.order)
