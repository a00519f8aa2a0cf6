use Rattle.std.proofs.Common.{◌≡◌, Some}
use Rattle.kdg_graph.specs.Node.{Node}
use Rattle.kdg_graph.specs.Nodes.{node_at}
use Rattle.graph_update.proofs.Renewing.{AreRenewed}
use Rattle.graph_update.proofs.rewriting.renewals.Given as goal

abbrev pub invariant-loop-node : goal.invariant-loop-node
invariant-loop-node g l =
    (goal.iterator-loop-node g).can_next l.node-iterator
    × (goal.iterator-loop-node g).is_finite l.node-iterator
    × ((node : Node) → node_at l.fn.graph l.fn.ended ≡ Some node
    → AreRenewed (g.A.App.meaning l.fn.app) l.fn.store l.fn.graph node l.fn.steps l.node-iterator l.changes.items l.steps)
