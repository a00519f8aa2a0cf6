use Rattle.std.proofs.Common.{◌≡◌, ◌∙◌, ◌∷◌, Some, ap, arith, length, sym, filter}
use Rattle.kdg_graph.proofs.Common.{conflicts_with, Node, ids_of, later_than, node_at}
use Rattle.kdg_graph.proofs.Earliest.{first_there, walked}
use Rattle.kdg_graph.proofs.laters.LatersIterator.next.Goals as goal

pub entry-node-requires : goal.entry-node-requires
entry-node-requires c =
    first_there c.self.inside.nodes.now.nodes c.self.inside.after.now (λ other. conflicts_with c.self.inside.set.now other.set) (Some c.in_ok-id.id) c.first_in_conflict.ensures.graph c.in_ok-id.ensures.first

pub returns-clause-steps : goal.returns-clause-steps
returns-clause-steps c =
    let node : Node = record { id = c.node.inside.id; task = c.node.inside.task; set = c.node.inside.set; running = c.node.inside.running } in
    let found : node_at c.self.inside.nodes.now.nodes c.in_ok-id.id ≡ Some node = c.entry-node.ensures ∙ ap (λ (n : Node). Some n) (sym c.node.view_is) in
    let all : c.args.self.now ≡ c.in_ok-id.id ∷ ids_of (filter (λ other. conflicts_with c.self.inside.set.now other.set) (later_than node.task.key c.self.inside.nodes.now.nodes)) =
    sym c.self.view_is ∙ walked c.self.inside.set.now c.self.inside.after.now c.self.inside.nodes.now.nodes c.in_ok-id.id node c.first_in_conflict.ensures.graph (sym c.in_ok-id.ensures.first) found in
    all

pub returns-clause-goes : goal.returns-clause-goes
returns-clause-goes c =
    let node : Node = record { id = c.node.inside.id; task = c.node.inside.task; set = c.node.inside.set; running = c.node.inside.running } in
    let found : node_at c.self.inside.nodes.now.nodes c.in_ok-id.id ≡ Some node = c.entry-node.ensures ∙ ap (λ (n : Node). Some n) (sym c.node.view_is) in
    let all : c.args.self.now ≡ c.in_ok-id.id ∷ ids_of (filter (λ other. conflicts_with c.self.inside.set.now other.set) (later_than node.task.key c.self.inside.nodes.now.nodes)) =
    sym c.self.view_is ∙ walked c.self.inside.set.now c.self.inside.after.now c.self.inside.nodes.now.nodes c.in_ok-id.id node c.first_in_conflict.ensures.graph (sym c.in_ok-id.ensures.first) found in
    record { on = λ _. (tt, tt, omega (arith, ap length all)); keeps = tt; rests = λ _. tt }
