use Rattle.std.proofs.Common.{◌+◌, ◌≤◌}
use Rattle.cell_store.specs.Values.{values_of}
use Rattle.graph_update.proofs.FirstNodes.{AreLeft}
use Rattle.graph_update.proofs.beginning.put_first.Given as goal

abbrev pub invariant-loop-number : goal.invariant-loop-number
invariant-loop-number g l = record {
  left : AreLeft (g.A.App.meaning l.app) (values_of l.store) l.first l.number l.graph;
  steps : l.steps ≤ l.fn.steps + l.number;
}
