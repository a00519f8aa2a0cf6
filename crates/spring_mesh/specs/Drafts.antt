-- What the reader holds of the lines so far.
use Rattle.std.specs.Prelude.{ℕ, ◌++◌, [], ◌∷◌, List, length, Option, None, Some, is_some, Result, Ok, Err}
use Rattle.std.specs.Option.{option_or}
use Rattle.kdg_text.specs.declared.fault.Fault.{Fault}
use Rattle.kdg_text.specs.declared.fault.LineFault.{LineFault}
use Rattle.kdg_text.specs.Faults.{Numbered, fault_on, fault_where}
use Rattle.spring_mesh.specs.declared.draft.Draft.{Draft}
use Rattle.spring_mesh.specs.declared.file.MeshFile.{MeshFile}
use Rattle.spring_mesh.specs.declared.statement.Statement.{Statement}
use Rattle.spring_mesh.specs.declared.statement.Statement.TheVariants as says
use Rattle.spring_mesh.specs.Faults.{syntax, no_end}
use Rattle.spring_mesh.specs.Files.{said, node_in, mass_in, spring_in, end_of, spring_from, form_fault}
use Rattle.spring_mesh.specs.LineForms.{LineForm}

-- what lines say so far
abbrev pub draft_of : List (Numbered LineForm) → Draft
draft_of lines = record { nodes = said node_in lines; masses = said mass_in lines; springs = said spring_in lines; end = end_of lines }

-- what is wrong with a line beside a draft of those before it
abbrev pub draft_fault : Draft → LineForm → Option LineFault
draft_fault draft form = option_or (fault_where (is_some draft.end) syntax) (form_fault (length draft.nodes) (length draft.springs) form)

-- the draft with what one more line says
abbrev pub draft_with : Draft → Statement → Draft
draft_with draft (says.Node node mass) = record draft { nodes = draft.nodes ++ node ∷ []; masses = draft.masses ++ mass ∷ [] }
draft_with draft (says.Spring spring) = record draft { springs = draft.springs ++ spring_from spring ∷ [] }
draft_with draft (says.End time) = record draft { end = Some time }

abbrev pub draft_plus : Draft → LineForm → Draft
draft_plus draft (Ok statement) = draft_with draft statement
draft_plus draft (Err fault) = draft

-- the mesh of a draft that has this end, or else the fault at the line behind the last
abbrev pub ended : Draft → ℕ → Option ℕ → Result MeshFile Fault
ended draft behind (Some end) = Ok (record { nodes = draft.nodes; masses = draft.masses; springs = draft.springs; end = end })
ended draft behind None = Err (fault_on behind no_end)

abbrev pub file_from : Draft → ℕ → Result MeshFile Fault
file_from draft behind = ended draft behind draft.end
