use Rattle.std.proofs.Common.{◌≡◌, ◌++◌, [], length}
use Rattle.kdg_graph.specs.Nodes.{tasks_of}
use Rattle.graph_update.proofs.renaming.take_tasks.Given as goal

abbrev pub invariant-loop-node : goal.invariant-loop-node
invariant-loop-node l = record {
  all : l.tasks.items ++ tasks_of l.graph ≡ tasks_of l.fn.graph;
  no_fresh : l.fresh.items ≡ [];
}

abbrev pub decreases-loop-node : goal.decreases-loop-node
decreases-loop-node l = length l.graph
