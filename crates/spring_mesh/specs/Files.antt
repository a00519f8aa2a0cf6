-- The mesh that lines describe, and what holds of every mesh that was read.
use Rattle.std.specs.Prelude.{◌≡◌, ◌≢◌, ℕ, ◌-◌, ◌<◌, ◌≤◌, Bool, ◌&&◌, not, ◌==◌, nat_le, List, length, Option, None, Some, is_some, Result, Ok, Err, ℤ, pos, ◌≤ℤ◌, unsigned_abs, slice_get, All}
use Rattle.std.specs.List.{filter_map}
use Rattle.std.specs.Option.{option_or}
use Rattle.kdg_text.specs.declared.fault.Fault.{Fault}
use Rattle.kdg_text.specs.declared.fault.LineFault.{LineFault}
use Rattle.kdg_text.specs.Faults.{Numbered, fault_on, fault_where}
use Rattle.spring_mesh.specs.declared.file.MeshFile.{MeshFile}
use Rattle.spring_mesh.specs.declared.file.MeshNode.{MeshNode}
use Rattle.spring_mesh.specs.declared.file.Spring.{Spring}
use Rattle.spring_mesh.specs.declared.statement.SpringDraft.{SpringDraft}
use Rattle.spring_mesh.specs.declared.statement.Statement.{Statement}
use Rattle.spring_mesh.specs.declared.statement.Statement.TheVariants as says
use Rattle.spring_mesh.specs.Faults.{syntax, no_node, beyond, no_end}
use Rattle.spring_mesh.specs.LineForms.{LineForm, reach, most_stiffness, most_mass, latest}

-- the node of a line
abbrev pub node_in : LineForm → Option MeshNode
node_in (Ok (says.Node node mass)) = Some node
node_in _ = None

-- the mass of a line's node
abbrev pub mass_in : LineForm → Option ℤ
mass_in (Ok (says.Node node mass)) = Some mass
mass_in _ = None

-- the spring that a line describes, with ends counted from 0
abbrev pub spring_from : SpringDraft → Spring
spring_from draft = record { a = draft.a - 1; b = draft.b - 1; k = draft.k; rx = draft.rx; ry = draft.ry; h = draft.h }

abbrev pub spring_in : LineForm → Option Spring
spring_in (Ok (says.Spring draft)) = Some (spring_from draft)
spring_in _ = None

-- the end that a line sets
abbrev pub end_in : LineForm → Option ℕ
end_in (Ok (says.End time)) = Some time
end_in _ = None

-- what is said by lines of a sort, in order
abbrev pub said : {X : Type 0} → (LineForm → Option X) → List (Numbered LineForm) → List X
said by lines = filter_map (λ line. by line.form) lines

-- the end that lines set, where one does
abbrev pub end_of : List (Numbered LineForm) → Option ℕ
end_of lines = slice_get (said end_in lines) 0

abbrev pub most_nodes : ℕ
most_nodes = 4096

abbrev pub most_springs : ℕ
most_springs = 16384

-- whether a number, counted from 1, is that of one of `nodes` nodes
abbrev pub is_one_of : ℕ → ℕ → Bool
is_one_of nodes number = nat_le 1 number && nat_le number nodes

-- whether the ends of a spring are two of `nodes` nodes
abbrev pub are_two_of : ℕ → SpringDraft → Bool
are_two_of nodes draft = is_one_of nodes draft.a && is_one_of nodes draft.b && not (draft.a == draft.b)

-- the line has a node or a spring more than there may be, or ends that are no two nodes, where `nodes` and `springs` are before it
abbrev pub statement_fault : ℕ → ℕ → Statement → Option LineFault
statement_fault nodes springs (says.Node node mass) = fault_where (nat_le most_nodes nodes) (beyond most_nodes)
statement_fault nodes springs (says.Spring draft) =
    option_or (fault_where (not (are_two_of nodes draft)) no_node) (fault_where (nat_le most_springs springs) (beyond most_springs))
statement_fault nodes springs (says.End time) = None

-- the line's own fault, or what is wrong with it where `nodes` nodes and `springs` springs are before it
abbrev pub form_fault : ℕ → ℕ → LineForm → Option LineFault
form_fault nodes springs (Ok statement) = statement_fault nodes springs statement
form_fault nodes springs (Err fault) = Some fault

-- what is wrong with a line, by its own bytes and the lines before it: behind the end no line may say anything
abbrev pub line_fault : List (Numbered LineForm) → LineForm → Option LineFault
line_fault before form =
    option_or (fault_where (is_some (end_of before)) syntax) (form_fault (length (said node_in before)) (length (said spring_in before)) form)

-- the mesh that lines describe, where this one is their end; where none is, this is the number of the line behind the last
abbrev pub file_with : ℕ → List (Numbered LineForm) → Option ℕ → Result MeshFile Fault
file_with behind lines (Some end) = Ok (record { nodes = said node_in lines; masses = said mass_in lines; springs = said spring_in lines; end = end })
file_with behind lines None = Err (fault_on behind no_end)

-- a number lies from minus so much to so much
abbrev pub IsWithin : ℕ → ℤ → Type 0
IsWithin most n = unsigned_abs n ≤ most

-- places and speeds are within reach, and the time is no later than the last
pub record IsNode (node : MeshNode) : Type 0 where
  pub x : IsWithin reach node.x
  pub y : IsWithin reach node.y
  pub vx : IsWithin reach node.vx
  pub vy : IsWithin reach node.vy
  pub time : node.time ≤ latest

pub record IsMass (mass : ℤ) : Type 0 where
  pub some : pos 1 ≤ℤ mass
  pub most : mass ≤ℤ pos most_mass

-- the ends are two of `nodes` nodes, and the numbers are in their ranges
pub record IsSpring (nodes : ℕ) (spring : Spring) : Type 0 where
  pub a : spring.a < nodes
  pub b : spring.b < nodes
  pub two : spring.a ≢ spring.b
  pub not_negative : pos 0 ≤ℤ spring.k
  pub stiffness : spring.k ≤ℤ pos most_stiffness
  pub rx : IsWithin reach spring.rx
  pub ry : IsWithin reach spring.ry
  pub some : 1 ≤ spring.h
  pub period : spring.h ≤ latest

-- what holds of each mesh that was read
pub record IsMesh (file : MeshFile) : Type 0 where
  pub node_count : length file.nodes ≤ most_nodes
  pub spring_count : length file.springs ≤ most_springs
  pub mass_count : length file.masses ≡ length file.nodes
  pub nodes : All IsNode file.nodes
  pub start : All (λ node. node.time ≡ 0) file.nodes
  pub masses : All IsMass file.masses
  pub springs : All (IsSpring (length file.nodes)) file.springs
  pub end : file.end ≤ latest
