use Rattle.std.specs.Prelude.{◌≡◌, map}
use Rattle.std.specs.List.{range_with_len}
use Rattle.level_walk.specs.Edges.{edges_to}
use Rattle.level_walk.proofs.edges.edge_ends.Given as goal

abbrev pub invariant-loop-vertex : goal.invariant-loop-vertex
invariant-loop-vertex l = l.ends.items ≡ map (edges_to l.edges) (range_with_len 0 l.vertex)
