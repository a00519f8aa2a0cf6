-- Where the edges of each vertex stand among all edges, which are in the order of the vertices at which they begin.
use Rattle.std.specs.Prelude.{◌≡◌, ℕ, ◌+◌, ◌≤◌, nat_le, List, length, map, filter}
use Rattle.std.specs.List.{range_with_len}
use Rattle.mtx_reader.specs.declared.pattern.Pattern.{Pattern}
use Rattle.mtx_reader.specs.Patterns.{IsPattern}
use Rattle.mtx_reader.specs.Places.{Place}
use Rattle.level_walk.specs.Walks.{vertex_count}

-- how many edges begin at a vertex up to this one
abbrev pub edges_to : List Place → ℕ → ℕ
edges_to edges vertex = length (filter (λ edge. nat_le edge.0 vertex) edges)

-- how many edges begin up to each number from 0 to that of the last vertex
abbrev pub edge_ends : List Place → ℕ → List ℕ
edge_ends edges vertices = map (edges_to edges) (range_with_len 0 (vertices + 1))

-- a search with the ends of the edges of each vertex
pub record IsIndexed (pattern : Pattern) (from : ℕ) (ends : List ℕ) : Type 0 where
  pub is_pattern : IsPattern pattern
  pub from_one : 1 ≤ from
  pub ends_are : ends ≡ edge_ends pattern.places (vertex_count pattern)
