-- Walks through a directed graph, and the lengths of the shortest ones.
use Rattle.std.specs.Prelude.{◌≡◌, ℕ, suc, ◌≤◌, ◌==◌, nat_lt, if◌then◌else◌, List, [], ◌∷◌, length, filter, Some, slice_get}
use Rattle.mtx_reader.specs.declared.pattern.Pattern.{Pattern}
use Rattle.mtx_reader.specs.Ascending.{IsIn}
use Rattle.mtx_reader.specs.Places.{Place}
use Rattle.level_walk.specs.declared.level.Level.{Level}
use Rattle.level_walk.specs.declared.level.Level.TheVariants.{Unset, At}

-- a graph, and the vertex from which it is searched
pub record Search : Type 0 where
  pub pattern : Pattern
  pub from : ℕ

-- the graph of a pattern has this many vertices, which are counted from 1
abbrev pub vertex_count : Pattern → ℕ
vertex_count pattern = if nat_lt pattern.rows pattern.cols then pattern.cols else pattern.rows

-- and an edge from the row to the column of each place
abbrev pub HasEdge : Pattern → ℕ → ℕ → Type 0
HasEdge pattern first second = IsIn pattern.places (first, second)

-- the edges that begin at a vertex
abbrev pub edges_from : Pattern → ℕ → List Place
edges_from pattern vertex = filter (λ edge. edge.0 == vertex) pattern.places

-- these vertices, with an edge from each to the next, are a walk from the first to the last
abbrev pub IsWalk : Pattern → ℕ → ℕ → List ℕ → Type 0
IsWalk pattern first last [] = ⊥
IsWalk pattern first last (vertex ∷ []) = (vertex ≡ first) × (vertex ≡ last)
IsWalk pattern first last (vertex ∷ next ∷ others) = (vertex ≡ first) × HasEdge pattern vertex next × IsWalk pattern next last (next ∷ others)

-- there is a walk of that many edges
pub record HasWalk (pattern : Pattern) (first last edges : ℕ) : Type 0 where
  pub vertices : List ℕ
  pub walk : IsWalk pattern first last vertices
  pub long : length vertices ≡ suc edges

-- the level is the length of a walk to the vertex, and no walk is shorter; there is none where there is no walk
abbrev pub IsShortest : Pattern → ℕ → ℕ → Level → Type 0
IsShortest pattern from vertex Unset = (edges : ℕ) → ¬ HasWalk pattern from vertex edges
IsShortest pattern from vertex (At level) = HasWalk pattern from vertex level × ((edges : ℕ) → HasWalk pattern from vertex edges → level ≤ edges)

-- so it is of each vertex, where the levels are in the order of the vertices
pub record AreShortest (pattern : Pattern) (from : ℕ) (levels : List Level) : Type 0 where
  pub one_each : length levels ≡ vertex_count pattern
  pub shortest : (loc : ℕ) (level : Level) → slice_get levels loc ≡ Some level → IsShortest pattern from (suc loc) level
