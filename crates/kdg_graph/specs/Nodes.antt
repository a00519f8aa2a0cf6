-- Lists of nodes in the order of their tasks' keys.
use Rattle.std.specs.Prelude.{◌≡◌, ◌≢◌, Bool, true, ◌==◌, if◌then◌else◌, List, [], ◌∷◌, map, Option, Some, None, IsSome}
use Rattle.std.specs.List.{AllByRecursion, find, filter}
use Rattle.std.specs.Option.{option_map}
use Rattle.std.specs.Ordering.{is_eq, is_lt}
use Rattle.task_order.specs.declared.key.Key.{Key}
use Rattle.task_order.specs.declared.task.Task.{Task}
use Rattle.task_order.specs.Key.{key_cmp}
use Rattle.task_order.specs.TaskList.{IsAscending}
use Rattle.rw_sets.specs.Accesses.{Accesses, IsAscending as IsAscendingSet}
use Rattle.kdg_graph.specs.declared.node_id.NodeId.{NodeId}
use Rattle.kdg_graph.specs.Node.{Node}

abbrev pub ids_of : List Node → List NodeId
ids_of nodes = map (λ node. node.id) nodes

abbrev pub tasks_of : List Node → List Task
tasks_of nodes = map (λ node. node.task) nodes

-- no two nodes have one id
abbrev pub HaveOwnIds : List Node → Type 0
HaveOwnIds [] = Unit {0}
HaveOwnIds (node ∷ nodes) = AllByRecursion (λ other. other.id ≢ node.id) nodes × HaveOwnIds nodes

-- the locations of each recorded set ascend
abbrev pub HaveSets : List Node → Type 0
HaveSets nodes = AllByRecursion (λ node. IsAscendingSet node.set) nodes

-- what holds of the nodes of every graph: each is earlier than those after it, and has an id of its own
pub record IsGraph (nodes : List Node) : Type 0 where
  pub ascending : IsAscending (tasks_of nodes)
  pub own_ids : HaveOwnIds nodes
  pub sets : HaveSets nodes

-- whether the node has the id
abbrev pub is_at : NodeId → Node → Bool
is_at id node = node.id.at == id.at

-- the node with the id, if there is one
abbrev pub node_at : List Node → NodeId → Option Node
node_at nodes id = find (is_at id) nodes

abbrev pub HasNode : List Node → NodeId → Type 0
HasNode nodes id = IsSome (node_at nodes id)

-- its task, its recorded set, and whether it is running
abbrev pub task_at : List Node → NodeId → Option Task
task_at nodes id = option_map (λ node. node.task) (node_at nodes id)

abbrev pub set_at : List Node → NodeId → Option Accesses
set_at nodes id = option_map (λ node. node.set) (node_at nodes id)

abbrev pub running_at : List Node → NodeId → Option Bool
running_at nodes id = option_map (λ node. node.running) (node_at nodes id)

-- the node with the id has this key
pub record HasKey (nodes : List Node) (id : NodeId) (key : Key) : Type 0 where
  pub node : Node
  pub there : node_at nodes id ≡ Some node
  pub key_is : node.task.key ≡ key

-- the node whose task has the key, if there is one
abbrev pub node_with_key : List Node → Key → Option Node
node_with_key nodes key = find (λ node. is_eq (key_cmp node.task.key key)) nodes

-- the id of the earliest node
abbrev pub least_of : List Node → Option NodeId
least_of [] = None
least_of (node ∷ nodes) = Some node.id

-- the nodes that are earlier than a key, and those that are later
abbrev pub earlier_than : Key → List Node → List Node
earlier_than key nodes = filter (λ node. is_lt (key_cmp node.task.key key)) nodes

abbrev pub later_than : Key → List Node → List Node
later_than key nodes = filter (λ node. is_lt (key_cmp key node.task.key)) nodes

-- the nodes with one more, behind those that are earlier
abbrev pub put_node : Node → List Node → List Node
put_node node [] = node ∷ []
put_node node (other ∷ nodes) = if is_lt (key_cmp other.task.key node.task.key) then other ∷ put_node node nodes else node ∷ other ∷ nodes

-- the nodes, with this one running
abbrev pub started : NodeId → List Node → List Node
started id nodes = map (λ (node : Node). if is_at id node then record node { running = true } else node) nodes
