-- What the print of a search tells: the lengths of shortest walks.
use Rattle.std.specs.Prelude.{◌≡◌, ℕ, List, ◌++◌, length, Option, Ok}
use Rattle.std.specs.List.{AllByRecursion}
use Rattle.std.specs.Io.KnownBytes.{Appends}
use Rattle.mtx_reader.specs.declared.pattern.Pattern.{Pattern}
use Rattle.mtx_reader.specs.Grammar.{pattern_of}
use Rattle.output_log.specs.Entries.{Entry, joined_texts}
use Rattle.outer_edge.specs.Transfers.{Transfer}
use Rattle.level_walk.specs.declared.level.Level.{Level}
use Rattle.level_walk.specs.Laws.{IsVisitText}
use Rattle.level_walk.specs.Levels.{level_texts}
use Rattle.level_walk.specs.Walks.{AreShortest}
use Rattle.kdg_prog.specs.declared.status.Status.{Status}
use Rattle.kdg_prog.specs.declared.status.Status.TheVariants as status
use Rattle.kdg_prog.specs.declared.words.Command.TheVariants.{Levels}
use Rattle.kdg_prog.specs.declared.words.Options.{Options}
use Rattle.kdg_prog.specs.Answer.{answer_for, whole_print}
use Rattle.kdg_prog.specs.Inputs.{TakesInput}
use Rattle.kdg_prog.specs.Problem.{rounds_text, whole_text}

-- the bytes are the print of a search through the graph that the input spells: lines of first visits, a line for each vertex
-- with the length of a shortest walk to it, or with none, and the number of tasks
pub record PrintsLevels (options : Options) (input bytes : List ℕ) : Type 0 where
  pub pattern : Pattern
  pub spelled : pattern_of input ≡ Ok pattern
  pub levels : List Level
  pub shortest : AreShortest pattern options.from levels
  pub log : List Entry
  pub visits : AllByRecursion (λ entry. IsVisitText entry.1) log
  pub told : Option ℕ
  pub is : bytes ≡ whole_text (joined_texts log) (level_texts 1 levels) (length log) ++ rounds_text told

-- where an input is answered a print, it is such a one
abbrev pub AnswersLevels : Options → List ℕ → Type 0
AnswersLevels options input = (bytes : List ℕ) → answer_for Levels options input ≡ whole_print bytes → PrintsLevels options input bytes

-- such a print was written, of an input that was read
pub record WritesLevels (options : Options) (source sink : Transfer) : Type 0 where
  pub input : List ℕ
  pub read : TakesInput options.big source input
  pub bytes : List ℕ
  pub prints : PrintsLevels options input bytes
  pub written : Appends sink.before sink.after bytes

-- where a search is answered Ok, it is so
abbrev pub TellsLevels : Options → Transfer → Transfer → Status → Type 0
TellsLevels options source sink answer = options.command ≡ Levels → answer ≡ status.Ok → WritesLevels options source sink
