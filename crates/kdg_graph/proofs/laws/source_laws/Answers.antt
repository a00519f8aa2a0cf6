use Rattle.kdg_graph.proofs.Blocking.{running_nodes_are_no_sources, sources_are_nodes, sources_are_unblocked}
use Rattle.kdg_graph.proofs.laws.source_laws.Goals as goal

pub returns : goal.returns
returns c = record {
  nodes = sources_are_nodes;
  unblocked = sources_are_unblocked c.conflict_laws.ensures.decided;
  not_running = running_nodes_are_no_sources c.conflict_laws.ensures.decided;
}
