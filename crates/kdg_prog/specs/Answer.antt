-- What an input is answered: a function of the options and of the input's bytes.
use Rattle.std.specs.Prelude.{ℕ, List, replicate, Result}
use Rattle.kdg_text.specs.declared.fault.Fault.{Fault}
use Rattle.bench_reader.specs.declared.deck.Deck.{Deck}
use Rattle.logic_sim.specs.Circuit.{start_cells, start_tasks, finals_of}
use Rattle.logic_sim.specs.Event.{Simulation}
use Rattle.logic_sim.specs.Meaning.{simulation}
use Rattle.spring_mesh.specs.declared.file.MeshFile.{MeshFile}
use Rattle.spring_mesh.specs.declared.file.MeshNode.{MeshNode}
use Rattle.spring_mesh.specs.Meaning as meshes
use Rattle.mtx_reader.specs.declared.pattern.Pattern.{Pattern}
use Rattle.gf2_eliminate.specs.declared.line.Line2.{Line2}
use Rattle.gf2_eliminate.specs.Elimination.{elimination}
use Rattle.gf2_eliminate.specs.Start as matrices
use Rattle.level_walk.specs.declared.level.Level.{Level}
use Rattle.level_walk.specs.declared.level.Level.TheVariants.{Unset}
use Rattle.level_walk.specs.Levels.{first_visits, level_texts, levelling}
use Rattle.level_walk.specs.Walks.{Search, vertex_count}
use Rattle.kdg_prog.specs.declared.words.Command.{Command}
use Rattle.kdg_prog.specs.declared.words.Command.TheVariants.{Sim, Rank, Mesh, Levels}
use Rattle.kdg_prog.specs.declared.words.Options.{Options}
use Rattle.kdg_prog.specs.Inputs.{deck_for, pattern_for, mesh_for}
use Rattle.kdg_prog.specs.Problem.{Problem, Setting, answer_read, log_read, problem_of, FirstPassesRead, KeepsRead}
pub use Rattle.kdg_prog.specs.Problem.{Answer, input_fault, over_budget, whole_print}

-- ---- the command sim

-- the circuit of a deck, up to the last time of the options and with their clock
abbrev pub simulation_of : Options → Deck → Simulation
simulation_of options deck = record { deck = deck; until = options.until; clock = options.clock }

-- every signal is 0 at first, and the outputs are told at the end
abbrev pub circuit_setting : Simulation → Setting ℕ
circuit_setting circuit = record {
  cells = start_cells circuit.deck;
  tasks = start_tasks circuit;
  finals = finals_of circuit.deck;
}

abbrev pub circuit_problem : Simulation → Problem ℕ
circuit_problem circuit = problem_of (simulation circuit) (circuit_setting circuit)

abbrev pub deck_problem : Options → Deck → Problem ℕ
deck_problem options deck = circuit_problem (simulation_of options deck)

-- ---- the command rank

-- the ones of a pattern at first, and the lines and the rank of what elimination makes of them
abbrev pub pattern_setting : Pattern → Setting Line2
pattern_setting pattern = record {
  cells = matrices.start_cells pattern;
  tasks = matrices.start_tasks pattern;
  finals = matrices.finals_of pattern.rows;
}

abbrev pub pattern_problem : Pattern → Problem Line2
pattern_problem pattern = problem_of (elimination pattern.rows pattern.cols) (pattern_setting pattern)

-- ---- the command mesh

-- the nodes are where the file has them at first, and are told as they are at its end
abbrev pub mesh_setting : MeshFile → Setting MeshNode
mesh_setting file = record {
  cells = file.nodes;
  tasks = meshes.start_tasks file;
  finals = meshes.finals_of file;
}

abbrev pub mesh_problem : MeshFile → Problem MeshNode
mesh_problem file = problem_of (meshes.mesh_steps file) (mesh_setting file)

-- ---- the command levels

-- no vertex has a level at first, and the levels are told at the end
abbrev pub search_setting : Search → ℕ → Setting Level
search_setting search vertices = record {
  cells = replicate vertices Unset;
  tasks = first_visits search.pattern search.from;
  finals = level_texts 1;
}

abbrev pub search_problem : Search → Problem Level
search_problem search = problem_of (levelling search.pattern) (search_setting search (vertex_count search.pattern))

abbrev pub graph_problem : Options → Pattern → Problem Level
graph_problem options pattern = search_problem (record { pattern = pattern; from = options.from })

-- ---- every command

-- what is said of an input: its answer, how many tasks have been created when first there are more than the budget, the texts of the
-- first tasks of its sequential execution, as many as the budget, and what is kept of them in rounds after the last one within the
-- budget; where it has a fault there are no texts
pub record Said : Type 1 where
  pub answer : Answer
  pub First : ℕ → Type 0
  pub log : List ℕ
  pub Keeps : List ℕ → Type 0

abbrev pub said_of : {D V : Type 0} → (D → Problem V) → Options → Result D Fault → Said
said_of problem options found = record {
  answer = answer_read problem options found;
  First = FirstPassesRead problem options found;
  log = log_read problem options found;
  Keeps = KeepsRead problem options found;
}

-- by the problem that a command makes of what its reader finds
abbrev pub said_for : Command → Options → List ℕ → Said
said_for Rank options input = said_of pattern_problem options (pattern_for options.big input)
said_for Mesh options input = said_of mesh_problem options (mesh_for options.big input)
said_for Levels options input = said_of (graph_problem options) options (pattern_for options.big input)
said_for Sim options input = said_of (deck_problem options) options (deck_for options.big input)

abbrev pub answer_for : Command → Options → List ℕ → Answer
answer_for command options input = (said_for command options input).answer

abbrev pub FirstPassesFor : Command → Options → List ℕ → ℕ → Type 0
FirstPassesFor command options input = (said_for command options input).First

abbrev pub log_for : Command → Options → List ℕ → List ℕ
log_for command options input = (said_for command options input).log

abbrev pub KeepsFor : Command → Options → List ℕ → List ℕ → Type 0
KeepsFor command options input = (said_for command options input).Keeps

-- what an input is answered
abbrev pub answer_of : Options → List ℕ → Answer
answer_of options input = answer_for options.command options input

-- this many tasks have been created when first there are more than the budget
abbrev pub FirstPassesBudget : Options → List ℕ → ℕ → Type 0
FirstPassesBudget options input = FirstPassesFor options.command options input

-- the texts of the first tasks, as many as the budget
abbrev pub log_of : Options → List ℕ → List ℕ
log_of options input = log_for options.command options input

-- what is kept of them in rounds after the last one within the budget
abbrev pub KeepsOf : Options → List ℕ → List ℕ → Type 0
KeepsOf options input = KeepsFor options.command options input
