use Rattle.kdg_graph.proofs.Keeping.{tasks-started}
use Rattle.kdg_graph.proofs.KeyOrder.{tasks-put_node}
use Rattle.kdg_graph.proofs.Rewrites.{puts_add_one_node, starts_mark_one_node}
use Rattle.kdg_graph.proofs.laws.put_laws.Goals as goal

pub returns : goal.returns
returns c = record {
  one_node = puts_add_one_node;
  tasks = tasks-put_node;
  marks_one = starts_mark_one_node;
  keeps_tasks = tasks-started;
}
