-- What the visits of one level leave, where they act in turn.
use Rattle.std.specs.Prelude.{ℕ, zero, suc, ◌-◌, ◌≤◌, nat_lt, if◌then◌else◌, Bool, true, false, List, [], ◌∷◌, ◌++◌, map, slice_set}
use Rattle.task_order.specs.TaskList.{put_all}
use Rattle.app_laws.specs.Execution.{first_from}
use Rattle.commuting.specs.States.{State, state_of}
use Rattle.mtx_reader.specs.declared.pattern.Pattern.{Pattern}
use Rattle.level_walk.specs.declared.level.Level.{Level}
use Rattle.level_walk.specs.declared.level.Level.TheVariants.{Unset, At}
use Rattle.level_walk.specs.Levels.{first_visits, most_level, start_levels, visit_text}
use Rattle.level_walk.specs.Walks.{edges_from, vertex_count}

-- one of this many vertices, which are counted from 1
pub record IsVertexOf (count vertex : ℕ) : Type 0 where
  pub some : 1 ≤ vertex
  pub within : vertex ≤ count

abbrev pub IsVertex : Pattern → ℕ → Type 0
IsVertex pattern vertex = IsVertexOf (vertex_count pattern) vertex

-- levels, lines, and the vertices that are visited next
pub record Left : Type 0 where
  pub levels : List Level
  pub lines : List ℕ
  pub next : List ℕ

-- whether there is a vertex at the place, without a level
abbrev pub is_unset : List Level → ℕ → Bool
is_unset [] loc = false
is_unset (Unset ∷ levels) zero = true
is_unset (At level ∷ levels) zero = false
is_unset (level ∷ levels) (suc loc) = is_unset levels loc

-- the vertices that are visited after this one
abbrev pub next_vertices : Pattern → ℕ → ℕ → List ℕ
next_vertices pattern vertex level = if nat_lt level most_level then map (λ edge. edge.1) (edges_from pattern vertex) else []

-- a visit sets the level of a vertex that has none
abbrev pub after_visit : Pattern → ℕ → Left → ℕ → Left
after_visit pattern level left vertex =
    if is_unset left.levels (vertex - 1) then record {
      levels = slice_set left.levels (vertex - 1) (At level);
      lines = left.lines ++ visit_text vertex level;
      next = left.next ++ next_vertices pattern vertex level;
    } else left

-- visits in turn
abbrev pub visited : Pattern → ℕ → Left → List ℕ → Left
visited pattern level left [] = left
visited pattern level left (vertex ∷ vertices) = visited pattern level (after_visit pattern level left vertex) vertices

-- the visits of one level
abbrev pub after_level : Pattern → ℕ → Left → Left
after_level pattern level left = visited pattern level (record { levels = left.levels; lines = left.lines; next = [] }) left.next

-- the vertex that is visited first, if it is one
abbrev pub first_vertices : Pattern → ℕ → List ℕ
first_vertices pattern from = if nat_lt (vertex_count pattern) from then [] else from ∷ []

-- how a search begins, as the state of an execution
abbrev pub first_state : Pattern → ℕ → State Level
first_state pattern from = state_of (start_levels pattern) (put_all (first_from 0 (first_visits pattern from)) [])
