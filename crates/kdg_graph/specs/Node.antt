-- A node of the graph.
use Rattle.std.specs.Prelude.{Bool, false}
use Rattle.task_order.specs.declared.task.Task.{Task}
use Rattle.rw_sets.specs.Accesses.{Accesses}
use Rattle.kdg_graph.specs.declared.node_id.NodeId.{NodeId}

-- a pending task under its id, with its recorded set, and whether it is running
pub record Node : Type 0 where
  pub id : NodeId
  pub task : Task
  pub set : Accesses
  pub running : Bool

-- a node that is not running
abbrev pub new_node : NodeId → Task → Accesses → Node
new_node id task set = record { id = id; task = task; set = set; running = false }
