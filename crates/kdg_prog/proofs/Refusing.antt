-- The print of a run, and why there is none.
use Rattle.std.proofs.Common.{◌≡◌, ◌≢◌, ℕ, ◌<◌, List, ◌++◌, ◌&&◌, Bool, true, false, cond, Option, Some, None, Ok, Err, refl, sym, ◌∙◌, ap, subst, inl, inr, arith}
use Rattle.std.specs.Prelude.{IfErr, IsErrAnd, Result}
use Rattle.cell_store.specs.Laws.{HomesAreValues}
use Rattle.cell_store.specs.Values.{AreAllHome, values_of}
use Rattle.app_laws.specs.Execution.{Execution, Operator, start_of}
use Rattle.app_laws.specs.Serial.{IsFault, IsOverBudget, IsRun}
use Rattle.app_laws.specs.declared.serial_run.Finals.{Finals}
use Rattle.app_laws.specs.declared.serial_run.SerialFault.{SerialFault}
use Rattle.app_laws.specs.declared.serial_run.SerialFault.TheVariants.{Budget, NoRoom}
use Rattle.crew.specs.declared.answers.OverCause.{OverCause}
use Rattle.crew.specs.declared.answers.OverCause.TheVariants as cause
use Rattle.list_rounds.specs.Rounds.{IsRunFault, start_state}
use Rattle.task_order.specs.declared.start.Start.{Start}
use Rattle.kdg_prog.specs.declared.status.Status.{Status}
use Rattle.kdg_prog.specs.declared.status.Status.TheVariants as status
use Rattle.kdg_prog.specs.declared.words.Mode.TheVariants.{Serial}
use Rattle.kdg_prog.specs.declared.words.Options.{Options}
use Rattle.kdg_prog.specs.Problem.{Problem, whole_print, start_for, print_of, print_of_finals, answer_by, answer_by_end, end_of, is_in_rounds, rounds_shown, rounds_text, rounds_told, text_shown}
use Rattle.kdg_prog.specs.Refusals.{AnswersRounds, AnswersSerial, IsRunRefusal}

-- cells of a run that has ended are home
pub run_is_home : {V : Type 0} (act : Operator V) (budget : ℕ) (start : Execution V) (finals : Finals V) → HomesAreValues V → IsRun act budget start finals → AreAllHome finals.store
run_is_home act budget start finals laws run = subst AreAllHome (sym run.store) (laws.all_home run.end.cells)

pub refused_with : {T : Type 0} (result : Result T Status) (P Q : Status → Type 0) → ((answer : Status) → P answer → Q answer) → IsErrAnd result P → IfErr result Q
refused_with (Ok given) P Q implies is = tt
refused_with (Err answer) P Q implies is = implies answer is

-- where it isn't a mode of rounds, no rounds are told
pub none_told : (options : Options) → is_in_rounds options.mode ≡ false → (rounds : ℕ) → rounds_shown options rounds ≡ None
none_told options elsewhere rounds = ap (λ told. cond (options.stats && told) (Some rounds) None) elsewhere ∙ neither options.stats
  where
    neither : (stats : Bool) → cond (stats && false) (Some rounds) None ≡ None
    neither true = refl
    neither false = refl

module _ {V : Type 0} (options : Options) (problem : Problem V) where
  pub refusal_when_over : (created : ℕ) → IsOverBudget problem.app.act options.budget (start_for problem) created options.budget → IsRunRefusal options problem (status.Budget created options.budget)
  refusal_when_over created over =
      inr (inl (record {
        created = created;
        told = refl;
        above = over.first_passes.passes;
        over = ap (answer_by_end problem options (rounds_told options problem)) over.too_long;
        first = λ serial. over.first_passes;
      }))

  refusal_from_fault : (fault : SerialFault) (answer : Status) → IsFault problem.app.act options.budget (start_for problem) fault → AnswersSerial fault answer → IsRunRefusal options problem answer
  refusal_from_fault (Budget created limit) answer over told =
      inr (inl (record {
        created = created;
        told = told ∙ ap (status.Budget created) over.limit_is;
        above = over.first_passes.passes;
        over = ap (answer_by_end problem options (rounds_told options problem)) over.too_long;
        first = λ serial. over.first_passes;
      }))
  refusal_from_fault NoRoom answer over told = inr (inr told)

  pub print_from_run : (finals : Finals V) (told : Option ℕ) (bytes : List ℕ) → HomesAreValues V → rounds_told options problem ≡ told → IsRun problem.app.act options.budget (start_for problem) finals →
      bytes ≡ print_of_finals problem options told finals → answer_by options problem ≡ whole_print bytes
  print_from_run finals told bytes laws tells run is-bytes =
      let cells : values_of finals.store ≡ run.end.cells = ap values_of run.store ∙ laws.values_of_homes run.end.cells in
      let printed : bytes ≡ print_of problem options told run.end =
      is-bytes ∙ (λ i. text_shown options (run.text i) (problem.finals (cells i)) (run.count i) ++ rounds_text told) in
      (λ i. answer_by_end problem options (tells i) (run.ends i)) ∙ ap whole_print (sym printed)

  -- the refusal of a run that isn't serial and does not end within the budget
  pub refusal_when_endless : options.mode ≢ Serial → (created limit : ℕ) → end_of options problem ≡ None → limit ≡ options.budget → limit < created → (answer : Status) → answer ≡ status.Budget created limit → IsRunRefusal options problem answer
  refusal_when_endless not_serial created limit endless bound above answer told =
      inr (inl (record {
        created = created;
        told = told ∙ ap (status.Budget created) bound;
        above = omega (arith, above, bound);
        over = ap (answer_by_end problem options (rounds_told options problem)) endless;
        first = λ serial. absurd (not_serial serial);
      }))

  refusal_at_start : options.mode ≢ Serial → (fault : OverCause) (answer : Status) → IsRunFault problem.app (start_state problem.cells problem.tasks) options.budget fault → AnswersRounds fault answer → IsRunRefusal options problem answer
  refusal_at_start not_serial (cause.Budget created limit) answer over told = refusal_when_endless not_serial created limit over.too_long over.limit_is (omega (arith, over.above, over.limit_is)) answer told
  refusal_at_start not_serial cause.NoRoom answer over told = inr (inr told)

  module _ (cells : List V) (tasks : List Start) (is-cells : cells ≡ problem.cells) (is-tasks : tasks ≡ problem.tasks) where
    -- the refusal of a serial run
    pub refusal_from_serial : (fault : SerialFault) (result : Result (List ℕ) Status) → IsFault problem.app.act options.budget (start_of cells tasks) fault → IsErrAnd result (AnswersSerial fault) → IfErr result (IsRunRefusal options problem)
    refusal_from_serial fault result over told =
        refused_with result (AnswersSerial fault) (IsRunRefusal options problem)
        (λ answer told. refusal_from_fault fault answer (rw (← is-cells, ← is-tasks) over) told)
        told

    -- the refusal of a run in rounds over a list
    pub refusal_from_list : options.mode ≢ Serial → (fault : OverCause) (answer : Status) → IsRunFault problem.app (start_state cells tasks) options.budget fault → AnswersRounds fault answer → IsRunRefusal options problem answer
    refusal_from_list not_serial fault answer over told = refusal_at_start not_serial fault answer (rw (← is-cells, ← is-tasks) over) told

    -- the print of a serial run
    pub print_from_serial : (finals : Finals V) (bytes : List ℕ) → HomesAreValues V → rounds_told options problem ≡ None → IsRun problem.app.act options.budget (start_of cells tasks) finals → bytes ≡ print_of_finals problem options None finals → answer_by options problem ≡ whole_print bytes
    print_from_serial finals bytes laws tells ran is-bytes = print_from_run finals None bytes laws tells (rw (← is-cells, ← is-tasks) ran) is-bytes
