-- What the end of a task does to the nodes.
use Rattle.std.specs.Prelude.{◌≡◌, ◌≢◌, not, List, [], ◌∷◌, length, map, filter, unwrap_or}
use Rattle.std.specs.List.{AllByRecursion, find}
use Rattle.std.specs.Option.{option_map}
use Rattle.task_order.specs.declared.task.Task.{Task}
use Rattle.task_order.specs.TaskList.{HasDistinctKeys, IsNewKey}
use Rattle.rw_sets.specs.Accesses.{Accesses}
use Rattle.kdg_graph.specs.declared.node_id.NodeId.{NodeId}
use Rattle.kdg_graph.specs.declared.change.SetChange.{SetChange}
use Rattle.kdg_graph.specs.declared.change.Fresh.{Fresh}
use Rattle.kdg_graph.specs.Node.{Node, new_node}
use Rattle.kdg_graph.specs.Nodes.{is_at, put_node, HasNode}

-- the nodes without the one that has the id
abbrev pub without : NodeId → List Node → List Node
without id nodes = filter (λ node. not (is_at id node)) nodes

-- the set that the changes name for a node, or else its own
abbrev pub set_after : List SetChange → Node → Accesses
set_after changes node = unwrap_or (option_map (λ change. change.set) (find (λ change. is_at change.node node) changes)) node.set

-- the nodes with their sets after the changes
abbrev pub with_sets : List SetChange → List Node → List Node
with_sets changes nodes = map (λ (node : Node). record node { set = set_after changes node }) nodes

-- the nodes with several more
abbrev pub put_nodes : List Node → List Node → List Node
put_nodes [] nodes = nodes
put_nodes (node ∷ new) nodes = put_nodes new (put_node node nodes)

abbrev pub fresh_tasks : List Fresh → List Task
fresh_tasks fresh = map (λ item. item.task) fresh

-- the sets that are named, and those of the fresh tasks
abbrev pub changed_sets : List SetChange → List Accesses
changed_sets changes = map (λ change. change.set) changes

abbrev pub fresh_sets : List Fresh → List Accesses
fresh_sets fresh = map (λ item. item.set) fresh

-- the fresh tasks as nodes, under these ids
abbrev pub fresh_nodes : List NodeId → List Fresh → List Node
fresh_nodes [] fresh = []
fresh_nodes (id ∷ ids) [] = []
fresh_nodes (id ∷ ids) (item ∷ fresh) = new_node id item.task item.set ∷ fresh_nodes ids fresh

-- several fresh nodes are put in, where the graph picks their ids
pub record AreAdded (old : List Node) (fresh : List Fresh) (now : List Node) : Type 0 where
  pub ids : List NodeId
  pub one_each : length ids ≡ length fresh
  pub nodes : now ≡ put_nodes (fresh_nodes ids fresh) old

-- a rewrite: the ended node is gone, the named sets are replaced, the fresh nodes are put in, and all else is as it was
abbrev pub IsRewritten : List Node → NodeId → List SetChange → List Fresh → List Node → Type 0
IsRewritten old ended changes fresh now = AreAdded (with_sets changes (without ended old)) fresh now

-- no two changes are of one node
abbrev pub AreOfOwnNodes : List SetChange → Type 0
AreOfOwnNodes [] = Unit {0}
AreOfOwnNodes (change ∷ changes) = AllByRecursion (λ other. other.node ≢ change.node) changes × AreOfOwnNodes changes

-- the changes are of nodes that stay, each of its own
pub record AreChangesOf (nodes : List Node) (ended : NodeId) (changes : List SetChange) : Type 0 where
  pub there : AllByRecursion (λ change. HasNode nodes change.node) changes
  pub stay : AllByRecursion (λ change. change.node ≢ ended) changes
  pub own : AreOfOwnNodes changes

-- the fresh tasks have keys of their own, and no task of the list has one of these
pub record HaveNewKeys (tasks : List Task) (fresh : List Fresh) : Type 0 where
  pub new : AllByRecursion (λ item. IsNewKey item.task.key tasks) fresh
  pub own : HasDistinctKeys (fresh_tasks fresh)
