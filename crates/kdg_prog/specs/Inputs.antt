-- The input of a run: bytes that are read, or what is made from a number.
use Rattle.std.specs.Prelude.{◌≡◌, ◌==◌, ℕ, zero, suc, List, [], if◌then◌else◌, Some, Result, Ok}
use Rattle.bench_reader.specs.declared.deck.Deck.{Deck}
use Rattle.bench_reader.specs.Grammar.{deck_of}
use Rattle.logic_sim.specs.Chain as chains
use Rattle.kdg_text.specs.declared.fault.Fault.{Fault}
use Rattle.mtx_reader.specs.declared.pattern.Pattern.{Pattern}
use Rattle.mtx_reader.specs.Grammar.{pattern_of}
use Rattle.gf2_eliminate.specs.Blocks as blocks
use Rattle.outer_edge.specs.Transfers.{Transfer, IsReadWhole, ReadsAll}
use Rattle.outer_edge.specs.declared.whole_input.ReadAllFault.{ReadAllFault}
use Rattle.spring_mesh.specs.declared.file.MeshFile.{MeshFile}
use Rattle.spring_mesh.specs.Grammar.{mesh_of}
use Rattle.spring_mesh.specs.Pairs as pairs
use Rattle.kdg_prog.specs.Bounds.{input_bound}

-- ---- what is run: what the bytes describe, or where the number isn't 0, what is made from it

abbrev pub deck_for : ℕ → List ℕ → Result Deck Fault
deck_for big input = if big == 0 then deck_of input else Ok (chains.generated_input big)

abbrev pub pattern_for : ℕ → List ℕ → Result Pattern Fault
pattern_for big input = if big == 0 then pattern_of input else Ok (blocks.generated_input big)

abbrev pub mesh_for : ℕ → List ℕ → Result MeshFile Fault
mesh_for big input = if big == 0 then mesh_of input else Ok (pairs.generated_input big)

-- ---- which bytes are read

-- no read was made of a source
pub record IsUnread (source : Transfer) : Type 0 where
  pub bytes : source.after ≡ source.before
  pub faults : source.faults_after ≡ source.faults_before

-- all bytes of a source, or none where the input is made from a number
abbrev pub TakesInput : ℕ → Transfer → List ℕ → Type 0
TakesInput zero source input = IsReadWhole input_bound source input
TakesInput (suc big) source input = IsUnread source × (input ≡ [])

-- what the taking of an input answers
abbrev pub TakesAll : ℕ → Transfer → Result (List ℕ) ReadAllFault → Type 0
TakesAll zero source result = ReadsAll input_bound source result
TakesAll (suc big) source result = IsUnread source × (result ≡ Ok [])

-- the bytes that there are for a run: those that a source tells, where they are read
abbrev pub Offers : ℕ → Transfer → List ℕ → Type 0
Offers zero source input = source.before ≡ Some input
Offers (suc big) source input = input ≡ []

-- those of these bytes that are read
abbrev pub read_of : ℕ → List ℕ → List ℕ
read_of zero bytes = bytes
read_of (suc big) bytes = []
