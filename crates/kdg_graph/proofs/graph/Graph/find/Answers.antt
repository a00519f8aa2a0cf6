use Rattle.std.proofs.Common.{rules, ◌≡◌, refl, subst, sym, Option, IfNone, IfSome, option_map}
use Rattle.kdg_graph.proofs.Common.{IsNewKey, NodeId, Node, HasNode, IsGraph, node_with_key, tasks_of}
use Rattle.kdg_graph.proofs.Rewrites.{new_by_key, there_by_key}
use Rattle.kdg_graph.proofs.graph.Graph.find.Goals as goal

pub returns-clause-there : goal.returns-clause-there
returns-clause-there c =
    let is : c.find.result ≡ option_map (λ (node : Node). node.id) (node_with_key c.args.self.now c.args.key.now) = search rules in
    subst (λ (found : Option NodeId). IfSome found (HasNode c.args.self.now)) (sym is)
    (there_by_key c.key_order.ensures.exact c.args.self.now c.args.key.now _ (subst IsGraph c.self.view_is c.self.invariant) refl)

pub returns-clause-absent : goal.returns-clause-absent
returns-clause-absent c =
    let is : c.find.result ≡ option_map (λ (node : Node). node.id) (node_with_key c.args.self.now c.args.key.now) = search rules in
    subst (λ (found : Option NodeId). IfNone found (IsNewKey c.args.key.now (tasks_of c.args.self.now))) (sym is) (new_by_key c.key_order.ensures.exact c.args.self.now c.args.key.now _ refl)
