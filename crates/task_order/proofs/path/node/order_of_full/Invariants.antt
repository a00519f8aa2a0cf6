use Rattle.std.proofs.Common.{◌≡◌, length}
use Rattle.std.specs.Cmp.Lexicographic.{slice_cmp}
use Rattle.std.specs.Ordering.{nat_cmp, ordering_then}
use Rattle.task_order.specs.SharedBytes.{chain}
use Rattle.task_order.proofs.path.node.order_of_full.Given as goal

abbrev pub invariant-loop-a : goal.invariant-loop-a
invariant-loop-a l = (length (chain l.a) ≡ length (chain l.b)) × (slice_cmp nat_cmp (chain l.fn.a) (chain l.fn.b) ≡ ordering_then (slice_cmp nat_cmp (chain l.a) (chain l.b)) l.order)
