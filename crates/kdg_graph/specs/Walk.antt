-- A walk over the nodes that are later than a key.
use Rattle.std.specs.Prelude.{List}
use Rattle.task_order.specs.declared.key.Key.{Key}
use Rattle.kdg_graph.specs.Locations.{AreFiled, Location}
use Rattle.kdg_graph.specs.declared.node_id.NodeId.{NodeId}
use Rattle.kdg_graph.specs.Node.{Node}
use Rattle.kdg_graph.specs.Nodes.{HasKey}

-- the node with the id has the key
pub record IsWalk (nodes : List Node) (locations : List Location) (id : NodeId) (key : Key) : Type 0 where
  pub key_of : HasKey nodes id key
  pub filed : AreFiled nodes locations
