-- What is kept beside the nodes of a graph.
use Rattle.std.specs.Prelude.{◌≡◌, ◌<◌, ◌≤◌, ◌-◌, ℕ, List, length, Option, IfSome}
use Rattle.std.specs.Borrow.{Bor}
use Rattle.kdg_graph.specs.Node.{Node}
use Rattle.kdg_graph.specs.Nodes.{IsGraph, ids_of}
use Rattle.kdg_graph.specs.declared.lane.Lane.{Lane}
use Rattle.kdg_graph.specs.Locations.{AreFiled, Location}
use Rattle.kdg_graph.specs.NodeStock.{NodeShelf, places_in}
use Rattle.kdg_graph.specs.Selected.{AreSome, MarkedIds, listed_in, unblocked_of}

-- all ids in key order, where a list of them is kept
abbrev pub IsOrder : List Node → Option Lane → Type 0
IsOrder nodes order = IfSome order (λ lane. lane.ids.items ≡ ids_of nodes)

abbrev pub IsOrderShown : List Node → Option (Bor Lane) → Type 0
IsOrderShown nodes order = IfSome order (λ lane. lane.now.ids.items ≡ ids_of nodes)

-- the nodes of each location, and the unblocked nodes, with room and marks for as many as there are nodes
pub record IsKept (nodes : List Node) (locations : List Location) (unblocked : MarkedIds) : Type 0 where
  pub graph : IsGraph nodes
  pub filed : AreFiled nodes locations
  pub some : AreSome nodes unblocked
  pub unblocked_are : listed_in nodes unblocked ≡ unblocked_of nodes

-- for `count` more nodes there is a place in the order of all, an id with a mark, and a place among the unblocked nodes
pub record HasSpare (count : ℕ) (nodes : NodeShelf) (order : Option Lane) (unblocked : MarkedIds) : Type 0 where
  pub places : count ≤ places_in order nodes.numbers
  pub numbers : count ≤ nodes.numbers
  pub marks : 0 < count → nodes.keys ≤ length unblocked.standings
  pub room : count ≤ unblocked.room - length nodes.nodes
