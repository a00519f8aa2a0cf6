-- The print of a search tells the lengths of shortest walks.
use Rattle.std.proofs.Common.{◌≡◌, ℕ, ◌≤◌, List, ◌++◌, true, false, Option, Some, None, Result, Ok, Err, sym, ◌∙◌, ap, subst, refl, cond, eq-eqb, inl, inr}
use Rattle.std.specs.Prelude.{IfOk, IfErr, ◌==◌}
use Rattle.std.proofs.lemmas.Bool.{cond-true}
use Rattle.kdg_text.specs.declared.fault.Fault.{Fault}
use Rattle.app_laws.specs.Execution.{Execution}
use Rattle.mtx_reader.specs.declared.pattern.Pattern.{Pattern}
use Rattle.mtx_reader.specs.Patterns.{IsPattern}
use Rattle.level_walk.specs.declared.level.Level.{Level}
use Rattle.level_walk.specs.Laws.{LevelsAreShortest, LogsAreVisits}
use Rattle.outer_edge.specs.declared.whole_input.ReadAllFault.{ReadAllFault}
use Rattle.outer_edge.specs.declared.whole_input.ReadAllFault.TheVariants as faults
use Rattle.kdg_prog.specs.declared.status.Status.{Status}
use Rattle.kdg_prog.specs.declared.status.Status.TheVariants as status
use Rattle.kdg_prog.specs.declared.words.Options.{Options}
use Rattle.kdg_prog.specs.declared.words.Command.{Command}
use Rattle.kdg_prog.specs.declared.words.Command.TheVariants.{Levels}
use Rattle.kdg_prog.specs.Answer.{answer_for, graph_problem}
use Rattle.outer_edge.specs.Transfers.{Transfer}
use Rattle.kdg_prog.specs.Inputs.{TakesAll, pattern_for}
use Rattle.kdg_prog.specs.Problem.{answer_by_end, answer_read, end_of, print_of, rounds_text, rounds_told, whole_print}
use Rattle.kdg_prog.specs.Refusals.{AnswersRead, IsRefusal}
use Rattle.kdg_prog.specs.Searches.{AnswersLevels, PrintsLevels, WritesLevels}
use Rattle.kdg_prog.specs.Serving.{IsServed}
use Rattle.kdg_prog.specs.Status.{status_of_fault}
use Rattle.kdg_prog.proofs.Promising.{taken_from_all}

module _ (options : Options) (input : List ℕ) (pattern : Pattern) (shortest : LevelsAreShortest) (visits : LogsAreVisits) (is-pattern : IsPattern pattern) (from-one : 1 ≤ options.from)
    (read : options.big ≡ 0) (spelled : pattern_for options.big input ≡ Ok pattern) where
  print_from_end : (bytes : List ℕ) (end : Option (Execution Level)) → end_of options (graph_problem options pattern) ≡ end
      → answer_by_end (graph_problem options pattern) options (rounds_told options (graph_problem options pattern)) end ≡ whole_print bytes → PrintsLevels options input bytes
  print_from_end bytes None is printed = absurd cc
  print_from_end bytes (Some last) is printed =
      let told = rounds_told options (graph_problem options pattern) in
      let same : print_of (graph_problem options pattern) options told last ≡ bytes = cc in
      let whole = cond-true (options.big == 0) _ _ (eq-eqb options.big 0 read) in record {
        pattern = pattern;
        spelled = subst (λ (big : ℕ). pattern_for big input ≡ Ok pattern) read spelled;
        levels = last.cells;
        shortest = shortest pattern options.from options.budget last is-pattern from-one is;
        log = last.log;
        visits = visits pattern options.from options.budget last is;
        told = told;
        is = sym same ∙ ap (λ (text : List ℕ). text ++ rounds_text told) whole;
      }

  -- where there is a print, it is that of the search
  pub answers_levels : AnswersLevels options input
  answers_levels bytes printed =
      print_from_end bytes (end_of options (graph_problem options pattern)) refl
      (subst (λ (found : Result Pattern Fault). answer_read (graph_problem options) options found ≡ whole_print bytes) spelled printed)

-- ---- what is refused isn't Ok

fault_status : (fault : Fault) → status_of_fault fault ≡ status.Ok → ⊥
fault_status fault = by_test (fault.bound == 0)
  where
    by_test : (small : _) → cond small (status.BadInput fault.line fault.kind) (status.TooLarge fault.line fault.bound) ≡ status.Ok → ⊥
    by_test true is = cc
    by_test false is = cc

refused_not_ok : (options : Options) (input : List ℕ) (answer : Status) → IsRefusal options input answer → answer ≡ status.Ok → ⊥
refused_not_ok options input answer (inl (fault, is, told)) ok = fault_status fault (sym told ∙ ok)
refused_not_ok options input answer (inr (inl over)) ok = let told = over.told in cc
refused_not_ok options input answer (inr (inr told)) ok = cc

pub unread_not_ok : (fault : ReadAllFault) (answer : Status) → AnswersRead fault answer → answer ≡ status.Ok → ⊥
unread_not_ok faults.ReadFault answer told ok = cc
unread_not_ok faults.TooLarge answer told ok = cc
unread_not_ok faults.NoRoom answer told ok = cc

-- what is so is so of an end
pub ok_of : {T E : Type 0} (P : Type 0) → P → (end : Result T E) → IfOk end (λ _. P)
ok_of P is (Ok done) = is
ok_of P is (Err fault) = tt

-- where a print was written whole, it is that of the search
pub levels_when_served : {T : Type 0} (options : Options) (source sink : Transfer) (input : List ℕ) → TakesAll options.big source (Ok input) → (end : Result T Status) (answer : Status) → options.command ≡ Levels
    → IfOk end (λ _. AnswersLevels options input) → IfErr end (λ refusal. answer ≡ refusal) → IsServed options input sink end → answer ≡ status.Ok → WritesLevels options source sink
levels_when_served options source sink input takes (Ok done) answer is levels refused served ok = record {
  input = input;
  read = (taken_from_all options.big source input takes).0;
  bytes = served.0;
  prints = levels served.0 (subst (λ (command : Command). answer_for command options input ≡ whole_print served.0) is served.1);
  written = served.2;
}
levels_when_served options source sink input takes (Err refusal) answer is levels told (inl cut) ok = absurd (let wrong : status.Ok ≡ status.WriteFault = sym ok ∙ told ∙ cut.1 in cc)
levels_when_served options source sink input takes (Err refusal) answer is levels told (inr left) ok = absurd (refused_not_ok options input refusal left.0 (sym told ∙ ok))
