-- Nodes of a graph that marked their recorded sets.
use Rattle.std.specs.Prelude.{◌≡◌, ℕ, ◌↔◌, false, List, map, slice_get, Some, Contains}
use Rattle.std.specs.List.{AllByRecursion}
use Rattle.kdg_graph.specs.Edges.{sources_of}
use Rattle.kdg_graph.specs.Node.{Node}
use Rattle.kdg_graph.specs.Nodes.{IsGraph}
use Rattle.mark_board.specs.declared.view.Mark.{Mark}
use Rattle.mark_board.specs.Markers.{IsFree}
use Rattle.mark_board.specs.Ranks.{AreMarksOf}

-- where each node has marked its recorded set with its place in key order, nothing else is marked, and no node is running, the free
-- places are just those of the graph's sources
abbrev pub FreeNodesAreSources : Type 0
FreeNodesAreSources = (nodes : List Node) (marks : List Mark) (rank : ℕ) (node : Node) → IsGraph nodes → AllByRecursion (λ other. other.running ≡ false) nodes →
    AreMarksOf (map (λ other. other.set) nodes) marks → slice_get nodes rank ≡ Some node → IsFree marks rank node.set ↔ Contains (sources_of nodes) node.id
