use Rattle.std.proofs.Common.{◌≡◌, length}
use Rattle.kdg_graph.proofs.Common.{AreLeft, ids_in, left_in, not_running}
use Rattle.kdg_graph.proofs.sources.SourcesIterator.next.Given as goal

-- only running nodes were passed over
abbrev pub invariant-loop-id : goal.invariant-loop-id
invariant-loop-id l = record {
  left : l.fn.self ≡ not_running l.self-inside.nodes.now.nodes (left_in l.self-inside.nodes.now.nodes (ids_in l.self-inside.unblocked.now) l.self-inside.last);
  are_left : AreLeft l.self-inside.nodes.now.nodes l.self-inside.unblocked.now l.self-inside.place l.self-inside.last;
}

abbrev pub decreases-loop-id : goal.decreases-loop-id
decreases-loop-id l = length (left_in l.self-inside.nodes.now.nodes (ids_in l.self-inside.unblocked.now) l.self-inside.last)
