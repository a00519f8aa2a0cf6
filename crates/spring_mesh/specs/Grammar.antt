-- The meshes that bytes spell, and the faults of those that spell none.
use Rattle.std.specs.Prelude.{◌≡◌, ℕ, ◌+◌, List, length, Result, Err}
use Rattle.kdg_text.specs.Lines.{lines_of}
use Rattle.kdg_text.specs.Faults.{Numbered, forms_from, first_fault, unless_fault}
use Rattle.kdg_text.specs.declared.fault.Fault.{Fault}
use Rattle.kdg_text.specs.declared.fault.ReadFail.{ReadFail}
use Rattle.kdg_text.specs.declared.fault.ReadFail.TheVariants.{Bad, NoRoom}
use Rattle.spring_mesh.specs.declared.file.MeshFile.{MeshFile}
use Rattle.spring_mesh.specs.LineForms.{LineForm, form_of}
use Rattle.spring_mesh.specs.Files.{end_of, line_fault, file_with}

-- the lines that say something, with their numbers
abbrev pub said_lines : List ℕ → List (Numbered LineForm)
said_lines input = forms_from form_of 1 (lines_of input)

-- the mesh that lines describe together, or the first fault; a missing end is the last of all, at the line behind the last
abbrev pub answer_of : ℕ → List (Numbered LineForm) → Result MeshFile Fault
answer_of behind lines = unless_fault (first_fault line_fault lines) (file_with behind lines (end_of lines))

-- the mesh that the bytes spell, or their first fault
unfoldable pub mesh_of : List ℕ → Result MeshFile Fault
mesh_of input = answer_of (length (lines_of input) + 1) (said_lines input)

-- bytes are refused only for the fault that they have
abbrev pub Refuses : List ℕ → ReadFail → Type 0
Refuses input NoRoom = Unit {0}
Refuses input (Bad fault) = mesh_of input ≡ Err fault
