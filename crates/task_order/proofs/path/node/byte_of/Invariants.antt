use Rattle.std.proofs.Common.{◌≡◌, slice_get}
use Rattle.task_order.specs.SharedBytes.{chain}
use Rattle.task_order.proofs.path.node.byte_of.Given as goal

abbrev pub invariant-loop-nodes : goal.invariant-loop-nodes
invariant-loop-nodes l = slice_get (chain l.nodes) l.at ≡ slice_get (chain l.fn.nodes) l.at
