-- Which nodes stand in the way of which.
use Rattle.std.specs.Prelude.{ℕ, Bool, not, ◌&&◌, List}
use Rattle.std.specs.List.{filter, list_any}
use Rattle.kdg_graph.specs.declared.node_id.NodeId.{NodeId}
use Rattle.kdg_graph.specs.Node.{Node}
use Rattle.kdg_graph.specs.Nodes.{ids_of, earlier_than, later_than}
use Rattle.rw_sets.specs.Accesses.{conflicts_with, writes}

-- whether the recorded set of some earlier node conflicts with that of the node
abbrev pub is_blocked : List Node → Node → Bool
is_blocked nodes node = list_any (λ other. conflicts_with other.set node.set) (earlier_than node.task.key nodes)

-- a source is not running, and no earlier node's recorded set conflicts with its own
abbrev pub is_source : List Node → Node → Bool
is_source nodes node = not node.running && not (is_blocked nodes node)

-- the sources, in key order
abbrev pub sources_of : List Node → List NodeId
sources_of nodes = ids_of (filter (is_source nodes) nodes)

-- the later nodes whose recorded sets conflict with that of the node, in key order
abbrev pub laters_of : List Node → Node → List NodeId
laters_of nodes node = ids_of (filter (λ other. conflicts_with node.set other.set) (later_than node.task.key nodes))

-- the nodes whose recorded sets write the location, in key order
abbrev pub writers_of : List Node → ℕ → List Node
writers_of nodes loc = filter (λ node. writes node.set loc) nodes
