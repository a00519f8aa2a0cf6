-- What holds of the nodes of a graph, its sources, and what a change leaves.
use Rattle.std.specs.Prelude.{◌≡◌, ◌≢◌, ◌⊎◌, ◌↔◌, ℕ, Bool, true, false, if◌then◌else◌, List, [], map, filter, Some, None, Contains}
use Rattle.std.specs.List.{AllByRecursion}
use Rattle.std.specs.Option.{option_map}
use Rattle.std.specs.declared.cmp.Ordering.TheVariants.{Less}
use Rattle.task_order.specs.declared.key.Key.{Key}
use Rattle.task_order.specs.declared.task.Task.{Task}
use Rattle.task_order.specs.Key.{key_cmp}
use Rattle.task_order.specs.TaskList.{IsNewKey, put_all, put_in, without as tasks_without}
use Rattle.rw_sets.specs.Accesses.{Accesses, Conflicts, writes}
use Rattle.kdg_graph.specs.declared.node_id.NodeId.{NodeId}
use Rattle.kdg_graph.specs.declared.change.SetChange.{SetChange}
use Rattle.kdg_graph.specs.declared.change.Fresh.{Fresh}
use Rattle.kdg_graph.specs.Node.{Node, new_node}
use Rattle.kdg_graph.specs.Nodes.{HasNode, IsGraph, ids_of, is_at, least_of, node_at, node_with_key, put_node, started, tasks_of}
use Rattle.kdg_graph.specs.Edges.{laters_of, sources_of, writers_of}
use Rattle.kdg_graph.specs.Rewrite.{AreChangesOf, HaveNewKeys, IsRewritten, fresh_tasks, set_after}

-- ---- look-ups

-- each node is found by its id, and by its key
abbrev pub NodesHaveIds : Type 0
NodesHaveIds = (nodes : List Node) (node : Node) → IsGraph nodes → Contains nodes node → node_at nodes node.id ≡ Some node

abbrev pub NodesHaveKeys : Type 0
NodesHaveKeys = (nodes : List Node) (node : Node) → IsGraph nodes → Contains nodes node → node_with_key nodes node.task.key ≡ Some node

-- and what is found is a node that has it
abbrev pub IdsFindNodes : Type 0
IdsFindNodes = (nodes : List Node) (id : NodeId) (node : Node) → node_at nodes id ≡ Some node → Contains nodes node × (node.id ≡ id)

abbrev pub KeysFindNodes : Type 0
KeysFindNodes = (nodes : List Node) (key : Key) (node : Node) → node_with_key nodes key ≡ Some node → Contains nodes node × (node.task.key ≡ key)

-- no node is found by a new key, and by no other
abbrev pub NewKeysFindNone : Type 0
NewKeysFindNone = (nodes : List Node) (key : Key) → (node_with_key nodes key ≡ None) ↔ IsNewKey key (tasks_of nodes)

-- the ids of some of the nodes find these, in order
abbrev pub IdsFindTheirNodes : Type 0
IdsFindTheirNodes = (nodes : List Node) (test : Node → Bool) → IsGraph nodes → map (node_at nodes) (ids_of (filter test nodes)) ≡ map Some (filter test nodes)

-- the least node is earlier than each other
abbrev pub LeastIsEarliest : Type 0
LeastIsEarliest = (nodes : List Node) (id : NodeId) → IsGraph nodes → least_of nodes ≡ Some id
    → (node : Node) × (node_at nodes id ≡ Some node) × ((other : Node) → Contains nodes other → other.id ≢ id → key_cmp node.task.key other.task.key ≡ Less)

-- only a graph without nodes has no least one
abbrev pub NoneIsLeastOfNone : Type 0
NoneIsLeastOfNone = (nodes : List Node) → (least_of nodes ≡ None) ↔ (nodes ≡ [])

-- ---- sources and later nodes

abbrev pub SourcesAreNodes : Type 0
SourcesAreNodes = (nodes : List Node) (id : NodeId) → IsGraph nodes → Contains (sources_of nodes) id → HasNode nodes id

-- a node is a source exactly where it isn't running and no earlier node's recorded set conflicts with its own
abbrev pub SourcesAreUnblocked : Type 0
SourcesAreUnblocked = (nodes : List Node) (id : NodeId) (node : Node) → IsGraph nodes → node_at nodes id ≡ Some node
    → Contains (sources_of nodes) id ↔ ((node.running ≡ false) × ((other : Node) → Contains nodes other → key_cmp other.task.key node.task.key ≡ Less → Conflicts other.set node.set → ⊥))

abbrev pub RunningNodesAreNoSources : Type 0
RunningNodesAreNoSources = (nodes : List Node) (id : NodeId) (node : Node) → IsGraph nodes → node_at nodes id ≡ Some node → node.running ≡ true → Contains (sources_of nodes) id → ⊥

abbrev pub LatersAreNodes : Type 0
LatersAreNodes = (nodes : List Node) (node : Node) (id : NodeId) → IsGraph nodes → Contains (laters_of nodes node) id → HasNode nodes id

-- they are exactly the later nodes in conflict
abbrev pub LatersAreInConflict : Type 0
LatersAreInConflict = (nodes : List Node) (node : Node) (id : NodeId) (later : Node) → IsGraph nodes → node_at nodes id ≡ Some later
    → Contains (laters_of nodes node) id ↔ ((key_cmp node.task.key later.task.key ≡ Less) × Conflicts node.set later.set)

-- a rewrite that ends a node may change the sets of just these
abbrev pub LatersMayChange : Type 0
LatersMayChange = (nodes : List Node) (ended : NodeId) (node : Node) (changes : List SetChange) → IsGraph nodes → node_at nodes ended ≡ Some node → map (λ change. change.node) changes ≡ laters_of nodes node → AreChangesOf nodes ended changes

-- where the tasks determine the recorded sets, the tasks of those that write a location are the ones whose sets do
abbrev pub WritersAreOfTasks : Type 0
WritersAreOfTasks = (nodes : List Node) (set_of : Task → Accesses) (loc : ℕ) → AllByRecursion (λ node. node.set ≡ set_of node.task) nodes → tasks_of (writers_of nodes loc) ≡ filter (λ task. writes (set_of task) loc) (tasks_of nodes)

-- ---- a node that is put in, and one that starts

abbrev pub PutsAddOneNode : Type 0
PutsAddOneNode = (node : Node) (nodes : List Node) (other : Node) → Contains (put_node node nodes) other ↔ ((node ≡ other) ⊎ Contains nodes other)

abbrev pub PutsAddTasks : Type 0
PutsAddTasks = (node : Node) (nodes : List Node) → tasks_of (put_node node nodes) ≡ put_in node.task (tasks_of nodes)

abbrev pub StartsMarkOneNode : Type 0
StartsMarkOneNode = (id : NodeId) (nodes : List Node) (other : NodeId) → node_at (started id nodes) other ≡ option_map (λ (node : Node). if is_at id node then record node { running = true } else node) (node_at nodes other)

abbrev pub StartsKeepTasks : Type 0
StartsKeepTasks = (id : NodeId) (nodes : List Node) → tasks_of (started id nodes) ≡ tasks_of nodes

-- ---- a rewrite

-- the other nodes keep their ids, their tasks and their marks, and have their sets after the changes
abbrev pub RewritesKeepNodes : Type 0
RewritesKeepNodes = (old : List Node) (ended : NodeId) (changes : List SetChange) (fresh : List Fresh) (now : List Node) → IsGraph now → IsRewritten old ended changes fresh now
    → (id : NodeId) (node : Node) → id ≢ ended → node_at old id ≡ Some node → node_at now id ≡ Some (record node { set = set_after changes node })

-- each fresh task has a node
abbrev pub RewritesAddNodes : Type 0
RewritesAddNodes = (old : List Node) (ended : NodeId) (changes : List SetChange) (fresh : List Fresh) (now : List Node) → IsGraph now → IsRewritten old ended changes fresh now
    → (item : Fresh) → Contains fresh item → (id : NodeId) × (node_at now id ≡ Some (new_node id item.task item.set)) × (node_with_key now item.task.key ≡ Some (new_node id item.task item.set))

-- and no other node is there
abbrev pub RewritesAddNoOther : Type 0
RewritesAddNoOther = (old : List Node) (ended : NodeId) (changes : List SetChange) (fresh : List Fresh) (now : List Node) → IsRewritten old ended changes fresh now → (node : Node) → Contains now node
    → ((was : Node) × Contains old was × (was.id ≢ ended) × (node ≡ record was { set = set_after changes was })) ⊎ ((item : Fresh) × Contains fresh item × (node ≡ new_node node.id item.task item.set))

-- the tasks are those of before without the ended one, and the fresh ones
abbrev pub RewritesReplaceTasks : Type 0
RewritesReplaceTasks = (old : List Node) (ended : NodeId) (changes : List SetChange) (fresh : List Fresh) (now : List Node) (node : Node) → IsGraph old → IsRewritten old ended changes fresh now → node_at old ended ≡ Some node
    → tasks_of now ≡ put_all (fresh_tasks fresh) (tasks_without node.task.key (tasks_of old))

-- the ended node's key is no node's
abbrev pub RewritesEndNodes : Type 0
RewritesEndNodes = (old : List Node) (ended : NodeId) (changes : List SetChange) (fresh : List Fresh) (now : List Node) (node : Node) → IsGraph old → HaveNewKeys (tasks_of old) fresh → IsRewritten old ended changes fresh now → node_at old ended ≡ Some node
    → node_with_key now node.task.key ≡ None
