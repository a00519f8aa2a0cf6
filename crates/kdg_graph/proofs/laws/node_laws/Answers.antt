use Rattle.kdg_graph.proofs.LookUps.{ids_find_nodes, ids_find_their_nodes, keys_find_nodes, least_is_earliest, new_keys_find_none, nodes_have_ids, nodes_have_keys, none_is_least_of_none}
use Rattle.kdg_graph.proofs.laws.node_laws.Goals as goal

pub returns : goal.returns
returns c = record {
  have_ids = nodes_have_ids;
  have_keys = nodes_have_keys c.key_order.ensures.exact;
  ids_find = ids_find_nodes;
  keys_find = keys_find_nodes c.key_order.ensures.exact;
  new_keys = new_keys_find_none c.key_order.ensures.exact;
  in_order = ids_find_their_nodes;
  least = least_is_earliest;
  no_least = none_is_least_of_none;
}
