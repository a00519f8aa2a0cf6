use Rattle.kdg_graph.proofs.Rewrites.{rewrites_add_no_other, rewrites_add_nodes, rewrites_end_nodes, rewrites_keep_nodes, rewrites_replace_tasks}
use Rattle.kdg_graph.proofs.laws.rewrite_laws.Goals as goal

pub returns : goal.returns
returns c = record {
  keeps = rewrites_keep_nodes;
  adds = rewrites_add_nodes c.key_order.ensures.exact;
  no_other = rewrites_add_no_other;
  tasks = rewrites_replace_tasks;
  ends = rewrites_end_nodes c.key_order.ensures.exact c.without_laws.ensures.makes_new;
}
