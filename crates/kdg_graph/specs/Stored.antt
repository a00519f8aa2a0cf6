-- Nodes that are kept under their ids, and seen in the order of their keys.
use Rattle.std.specs.Prelude.{◌≡◌, ℕ, List, [], ◌∷◌, Some, Contains}
use Rattle.slab.specs.Slab.{Slab, get, values}
use Rattle.kdg_graph.specs.Lanes.{AreStored}
use Rattle.kdg_graph.specs.Node.{Node}
use Rattle.kdg_graph.specs.Nodes.{IsGraph, put_node}

-- the nodes, each put in behind those that are earlier
abbrev pub in_order : List Node → List Node
in_order [] = []
in_order (node ∷ nodes) = put_node node (in_order nodes)

-- the nodes of a slab, in key order
abbrev pub nodes_of : Slab Node → List Node
nodes_of slots = in_order (values slots)

-- the nodes are those of a graph, each is kept under its id, and nothing else is kept
pub record AreKept (slots : Slab Node) (nodes : List Node) : Type 0 where
  pub graph : IsGraph nodes
  pub stored : AreStored slots nodes
  pub all : (key : ℕ) (node : Node) → get slots key ≡ Some node → (node.id.at ≡ key) × Contains nodes node

-- so are the nodes of the slab
abbrev pub IsStored : Slab Node → Type 0
IsStored slots = AreKept slots (nodes_of slots)
