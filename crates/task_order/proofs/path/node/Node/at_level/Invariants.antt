use Rattle.std.proofs.Common.{◌≡◌, ◌*◌, ◌<◌, length, take}
use Rattle.task_order.specs.declared.path.node.TheConstants.{FULL_NODE}
use Rattle.task_order.proofs.path.node.Node.at_level.Given as goal

abbrev pub invariant-loop-node : goal.invariant-loop-node
invariant-loop-node l = (l.node ≡ take (length l.node) l.self) × (FULL_NODE * l.level < length l.node)
