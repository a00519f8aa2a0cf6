use Rattle.std.proofs.Common.{◌≡◌, ◌+◌, ◌≤◌, ◌++◌, length}
use Rattle.std.specs.Prelude.{Contains}
use Rattle.std.specs.List.{AllByRecursion}
use Rattle.kdg_graph.specs.Edges.{sources_of}
use Rattle.kdg_graph.specs.Nodes.{tasks_of}
use Rattle.graph_update.proofs.ClearIds.{safe_ids}
use Rattle.graph_update.proofs.ready.clear_ids.Given as goal

-- the safe ones of the sources that were passed, the sources that are left, what the horizon tells, and for how many more ids there is room
abbrev pub invariant-loop-node : goal.invariant-loop-node
invariant-loop-node g l = record {
  passed : l.ids.items ++ safe_ids (g.A.App.meaning l.app) l.graph l.node-iterator ≡ safe_ids (g.A.App.meaning l.app) l.graph (sources_of l.graph);
  there : AllByRecursion (Contains (sources_of l.graph)) l.node-iterator;
  told : g.A.App.tells l.app l.horizon (tasks_of l.graph);
  room : length l.ids.items + l.room ≤ l.ids.capacity;
}
