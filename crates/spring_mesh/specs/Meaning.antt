-- Meshes as ordered applications: node i is at location i, and a task is a step of one spring, at the time that is its priority.
use Rattle.std.specs.Prelude.{◌≡◌, ℕ, ℤ, pos, true, ◌+◌, ◌<◌, ◌≤◌, nat_le, if◌then◌else◌, List, [], ◌∷◌, ◌++◌, length, map, filter, slice_index_or, slice_set, codes, All}
use Rattle.std.specs.Fmt.{decimal, signed_decimal}
use Rattle.std.specs.List.{flat_map, range_with_len}
use Rattle.task_order.specs.declared.start.Start.{Start}
use Rattle.task_order.specs.declared.task.Body.{Body}
use Rattle.rw_sets.specs.declared.access.Access.TheVariants.{Write}
use Rattle.rw_sets.specs.Accesses.{Accesses, put_access}
use Rattle.app_laws.specs.declared.app.SetAnswer.TheVariants as answer
use Rattle.app_laws.specs.declared.child.Child.{Child}
use Rattle.app_laws.specs.Applications.{Application}
use Rattle.app_laws.specs.Execution.{Outcome}
use Rattle.spring_mesh.specs.declared.file.MeshFile.{MeshFile}
use Rattle.spring_mesh.specs.declared.file.MeshNode.{MeshNode}
use Rattle.spring_mesh.specs.declared.file.Spring.{Spring}
use Rattle.spring_mesh.specs.Files.{IsMesh, IsNode}
use Rattle.spring_mesh.specs.Motion.{brought_to, first_after, second_after}

-- what stands past the last node, mass and spring
abbrev pub no_node : MeshNode
no_node = record { x = pos 0; y = pos 0; vx = pos 0; vy = pos 0; time = 0 }

abbrev pub no_spring : Spring
no_spring = record { a = 0; b = 0; k = pos 0; rx = pos 0; ry = pos 0; h = 0 }

abbrev pub node_at : List MeshNode → ℕ → MeshNode
node_at nodes number = slice_index_or nodes number no_node

abbrev pub mass_at : MeshFile → ℕ → ℤ
mass_at file number = slice_index_or file.masses number (pos 0)

abbrev pub spring_at : MeshFile → ℕ → Spring
spring_at file number = slice_index_or file.springs number no_spring

-- one value for each node of a mesh
pub record IsFitCells (mesh : MeshFile) (cells : List MeshNode) : Type 0 where
  pub file : IsMesh mesh
  pub count : length cells ≡ length mesh.nodes
  pub nodes : All IsNode cells

-- a step of one of the springs, no later than the end
pub record IsFitTask (mesh : MeshFile) (prio : ℕ) (body : Body) : Type 0 where
  pub kind : body.kind ≡ 0
  pub at_spring : body.at < length mesh.springs
  pub no_arg : body.arg ≡ 0
  pub in_time : prio ≤ mesh.end

-- both ends are written
abbrev pub ends_of : Spring → Accesses
ends_of spring = put_access ((spring.a, Write) ∷ []) (spring.b, Write)

-- the ends of a spring after a step at a time, where these are the ends before it
abbrev pub first_from : MeshFile → ℕ → Spring → MeshNode → MeshNode → MeshNode
first_from file time spring a b = first_after spring (mass_at file spring.a) (brought_to time a) (brought_to time b)

abbrev pub second_from : MeshFile → ℕ → Spring → MeshNode → MeshNode → MeshNode
second_from file time spring a b = second_after spring (mass_at file spring.b) (brought_to time a) (brought_to time b)

-- the ends of a spring after a step, by all cells
abbrev pub first_stepped : MeshFile → ℕ → Spring → List MeshNode → MeshNode
first_stepped file time spring cells = first_from file time spring (node_at cells spring.a) (node_at cells spring.b)

abbrev pub second_stepped : MeshFile → ℕ → Spring → List MeshNode → MeshNode
second_stepped file time spring cells = second_from file time spring (node_at cells spring.a) (node_at cells spring.b)

-- the cells with these ends
abbrev pub with_ends : Spring → MeshNode → MeshNode → List MeshNode → List MeshNode
with_ends spring first second cells = slice_set (slice_set cells spring.a first) spring.b second

-- the spring's next step, unless it would come after the end
abbrev pub next_steps : ℕ → ℕ → Body → Spring → List Start
next_steps end time body spring = if nat_le (time + spring.h) end then record { prio = time + spring.h; body = body } ∷ [] else []

-- that step with its set, which is its spring's
abbrev pub children_of : ℕ → ℕ → Body → Spring → List Child
children_of end time body spring =
    if nat_le (time + spring.h) end then record { prio = time + spring.h; body = body; set = ends_of spring } ∷ [] else []

-- a step of a spring: no line is written
abbrev pub step_of : MeshFile → ℕ → Body → Spring → List MeshNode → Outcome MeshNode
step_of file time body spring cells = record {
  cells = with_ends spring (first_stepped file time spring cells) (second_stepped file time spring cells) cells;
  children = next_steps file.end time body spring;
  text = [];
}

-- what a mesh means to those who execute it
abbrev pub mesh_steps : MeshFile → Application MeshNode
mesh_steps file = record {
  count = length file.nodes;
  is_fit_cells = IsFitCells file;
  is_fit_task = IsFitTask file;
  set_of = λ body cells. ends_of (spring_at file body.at);
  walk = λ body cells. answer.Known (ends_of (spring_at file body.at));
  act = λ task cells. step_of file task.key.prio task.body (spring_at file task.body.at) cells;
  is_safe = λ task others. true;
}

-- the springs below a number whose first step comes no later than the end
abbrev pub stepping_among : MeshFile → ℕ → List ℕ
stepping_among file n = filter (λ number. nat_le (spring_at file number).h file.end) (range_with_len 0 n)

-- a spring's first step
abbrev pub first_step : MeshFile → ℕ → Start
first_step file number = record { prio = (spring_at file number).h; body = record { kind = 0; at = number; arg = 0 } }

-- the first steps, in the order of the springs
abbrev pub start_tasks : MeshFile → List Start
start_tasks file = map (first_step file) (stepping_among file (length file.springs))

-- a number behind a space
abbrev pub value_piece : ℤ → List ℕ
value_piece value = codes " " ++ signed_decimal value

-- node I X Y VX VY
abbrev pub node_line : ℕ → MeshNode → List ℕ
node_line number node = codes "node " ++ decimal number ++ value_piece node.x ++ value_piece node.y ++ value_piece node.vx ++ value_piece node.vy ++ codes "\n"

-- the line of a node as it is at the end, counted from 1
abbrev pub final_line : ℕ → List MeshNode → ℕ → List ℕ
final_line end cells number = node_line (number + 1) (brought_to end (node_at cells number))

-- a line for each node
abbrev pub finals_of : MeshFile → List MeshNode → List ℕ
finals_of file cells = flat_map (final_line file.end cells) (range_with_len 0 (length file.nodes))
