-- The search for levels: what a visit does, how the search begins, and what is printed of its cells.
use Rattle.std.specs.Prelude.{◌≡◌, ℕ, suc, ◌-◌, ◌<◌, ◌≤◌, nat_lt, if◌then◌else◌, List, [], ◌∷◌, ◌++◌, map, replicate, codes}
use Rattle.std.specs.Fmt.{decimal}
use Rattle.std.specs.List.{range_with_len}
use Rattle.task_order.specs.declared.start.Start.{Start}
use Rattle.task_order.specs.declared.task.Body.{Body}
use Rattle.rw_sets.specs.Accesses.{Accesses}
use Rattle.app_laws.specs.declared.child.Child.{Child}
use Rattle.app_laws.specs.Applications.{Application}
use Rattle.app_laws.specs.Execution.{Outcome}
use Rattle.mtx_reader.specs.declared.pattern.Pattern.{Pattern}
use Rattle.hook_app.specs.Deeds.{Deeds}
use Rattle.hook_app.specs.Hooked.{hooked}
use Rattle.hook_app.specs.OneLocation.{own_set}
use Rattle.level_walk.specs.declared.level.Level.{Level}
use Rattle.level_walk.specs.declared.level.Level.TheVariants.{Unset, At}
use Rattle.level_walk.specs.Walks.{edges_from, vertex_count}

-- no visit goes beyond this level
abbrev pub most_level : ℕ
most_level = 4096

-- a visit to a vertex, which brings a level
abbrev pub visit_of : ℕ → ℕ → Start
visit_of level vertex = record { prio = level; body = record { kind = 0; at = vertex - 1; arg = 0 } }

-- the priority and the body are those of a visit to one of `vertices` vertices
pub record IsVisit (vertices prio : ℕ) (body : Body) : Type 0 where
  pub kind : body.kind ≡ 0
  pub vertex : body.at < vertices
  pub arg : body.arg ≡ 0
  pub level : prio ≤ most_level

-- the visits that follow the first one to a vertex
abbrev pub next_visits : Pattern → ℕ → ℕ → List Start
next_visits pattern vertex level = if nat_lt level most_level then map (λ edge. visit_of (suc level) edge.1) (edges_from pattern vertex) else []

-- a visit as it is handed over, with its set
abbrev pub child_at : ℕ → ℕ → Child
child_at level vertex = record { prio = level; body = record { kind = 0; at = vertex - 1; arg = 0 }; set = own_set (vertex - 1) }

abbrev pub next_children : Pattern → ℕ → ℕ → List Child
next_children pattern vertex level = if nat_lt level most_level then map (λ edge. child_at (suc level) edge.1) (edges_from pattern vertex) else []

abbrev pub visit_text : ℕ → ℕ → List ℕ
visit_text vertex level = codes "visit " ++ decimal vertex ++ 32 ∷ (decimal level ++ 10 ∷ [])

-- a visit sets the level of a vertex that has none
abbrev pub visited : Pattern → ℕ → ℕ → Level → Outcome Level
visited pattern vertex level Unset = record { cells = At level ∷ []; children = next_visits pattern vertex level; text = visit_text vertex level }
visited pattern vertex level (At earlier) = record { cells = At earlier ∷ []; children = []; text = [] }

-- the cell of the vertex is the only one in the set of a visit
abbrev pub visit_deed : Pattern → Start → List Level → Outcome Level
visit_deed pattern start [] = record { cells = []; children = []; text = [] }
visit_deed pattern start (level ∷ levels) = visited pattern (suc start.body.at) start.prio level

abbrev pub walking : Pattern → Deeds Level
walking pattern = record {
  is_fit_value = λ value. Unit {0};
  is_fit_task = IsVisit (vertex_count pattern);
  deed = visit_deed pattern;
}

-- each vertex has a set of its own
abbrev pub vertex_sets : ℕ → List Accesses
vertex_sets vertices = map own_set (range_with_len 0 vertices)

-- the search as an application
abbrev pub levelling : Pattern → Application Level
levelling pattern = hooked (walking pattern) (vertex_count pattern) (vertex_sets (vertex_count pattern)) 1

-- at the start no vertex has a level
abbrev pub start_levels : Pattern → List Level
start_levels pattern = replicate (vertex_count pattern) Unset

-- the first task visits the start, if that is a vertex
abbrev pub first_visits : Pattern → ℕ → List Start
first_visits pattern from = if nat_lt (vertex_count pattern) from then [] else visit_of 0 from ∷ []

abbrev pub level_text : ℕ → Level → List ℕ
level_text vertex Unset = codes "level " ++ decimal vertex ++ codes " none\n"
level_text vertex (At level) = codes "level " ++ decimal vertex ++ 32 ∷ (decimal level ++ 10 ∷ [])

-- a line for each of these levels, where the first is that of this vertex
abbrev pub level_texts : ℕ → List Level → List ℕ
level_texts vertex [] = []
level_texts vertex (level ∷ levels) = level_text vertex level ++ level_texts (suc vertex) levels
