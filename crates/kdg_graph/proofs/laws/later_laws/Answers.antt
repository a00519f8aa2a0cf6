use Rattle.kdg_graph.proofs.Blocking.{laters_are_in_conflict, laters_are_nodes, laters_may_change}
use Rattle.kdg_graph.proofs.laws.later_laws.Goals as goal

pub returns : goal.returns
returns c = record {
  nodes = laters_are_nodes;
  in_conflict = laters_are_in_conflict c.conflict_laws.ensures.decided;
  may_change = laters_may_change;
}
