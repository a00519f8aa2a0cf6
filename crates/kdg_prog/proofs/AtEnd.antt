-- The end of a run in rounds or in mode free, as that of the sequential run.
use Rattle.std.proofs.Common.{◌≡◌, ◌≢◌, ℕ, ◌-◌, List, [], ◌∷◌, Option, Some, None, ap, sym, subst, ◌∙◌, inr, arith}
use Rattle.std.specs.Prelude.{IfSome}
use Rattle.std.specs.List.Sorted.{IsStrictlySortedBy}
use Rattle.std.specs.Option.{option_map}
use Rattle.std.specs.declared.cmp.Ordering.TheVariants.{Less}
use Rattle.task_order.specs.Key.{end, key_cmp}
use Rattle.cell_store.specs.Laws.{HomesAreValues}
use Rattle.cell_store.specs.Values.{AreAllHome, values_of}
use Rattle.output_log.specs.Entries.{Entry, IsInKeyOrder, joined_by_key, joined_texts}
use Rattle.output_log.specs.Laws.{JoinsWithNone}
use Rattle.app_laws.specs.Applications.{Application, AreFitStarts}
use Rattle.app_laws.specs.Execution.{Execution, after_steps, steps_until}
use Rattle.app_laws.specs.Order.{IsOrderly, Pairwise}
use Rattle.app_laws.specs.Serial.{IsRun}
use Rattle.app_laws.specs.declared.serial_run.Finals.{Finals}
use Rattle.commuting.specs.Clear.{IsReady}
use Rattle.commuting.specs.Rounds.{RoundsAreOneNumber, TakesRounds}
use Rattle.commuting.specs.States.{run_from, state_of}
use Rattle.crew.specs.declared.answers.OverCause.{OverCause}
use Rattle.crew.specs.declared.answers.OverCause.TheVariants as faults
use Rattle.run_laws.specs.Answers.{IsBegun}
use Rattle.run_laws.specs.Progress.{Progress}
use Rattle.free_pool.specs.Runs.{IsRunEnd}
use Rattle.source_pool.specs.Runs.{IsRoundsEnd, IsRunFault, rest_of_run, state_at_rest}
use Rattle.task_order.specs.declared.start.Start.{Start}
use Rattle.kdg_prog.specs.declared.status.Status.{Status}
use Rattle.kdg_prog.specs.declared.words.Mode.TheVariants.{Serial}
use Rattle.kdg_prog.specs.declared.words.Options.{Options}
use Rattle.kdg_prog.specs.Problem.{Problem, Setting, end_of, first_state, rounds_of, start_for}
use Rattle.kdg_prog.specs.Refusals.{AnswersRounds, IsRunRefusal}
use Rattle.kdg_prog.specs.RoundCount.{RoundsToTheEndAreCounted}
use Rattle.kdg_prog.specs.Starts.{IsStarted}
use Rattle.kdg_prog.proofs.Refusing.{refusal_when_endless}

pub ascends : (entries : List Entry) → Pairwise (λ entry other. key_cmp entry.0 other.0 ≡ Less) entries → IsInKeyOrder entries
unfolding IsStrictlySortedBy
ascends [] each = tt
ascends (entry ∷ entries) each = (each.0, ascends entries each.1)

-- the cells are home at the end
pub home_at_end : {V : Type 0} (app : Application V) (progress : Progress V) (finals : Finals V) → HomesAreValues V → IsRunEnd app progress finals → AreAllHome finals.store
home_at_end app progress finals values ended = subst AreAllHome (sym ended.store) (values.all_home ended.last.cells)

-- an engine that has begun on cells and tasks that are those of the setting
pub started_on : {V : Type 0} (options : Options) (app : Application V) (setting : Setting V) (cells : List V) (tasks : List Start) (progress : Progress V) → cells ≡ setting.cells → tasks ≡ setting.tasks →
    IsBegun app cells tasks options.budget progress → app.is_fit_cells cells → AreFitStarts app tasks → IsStarted options app setting progress
started_on options app setting cells tasks progress is-cells is-tasks begun fit_cells fit_tasks = record {
  begun = (rw (is-cells, is-tasks) at begun);
  fit_cells = subst app.is_fit_cells is-cells fit_cells;
  fit_tasks = subst (AreFitStarts app) is-tasks fit_tasks;
}

-- an execution that ends has taken as many rounds as the definition counts
pub rounds_to_end : {V : Type 0} (options : Options) (problem : Problem V) (last : Execution V) (rounds : ℕ) → end_of options problem ≡ Some last → TakesRounds problem.app rounds (first_state problem) →
    RoundsToTheEndAreCounted problem.app → RoundsAreOneNumber problem.app → IsReady problem.app (first_state problem) → rounds_of options problem ≡ rounds
rounds_to_end {V} options problem last rounds ends takes counted one_number ready =
    let taken = subst (λ (found : Option (Execution V)). IfSome found (λ _. TakesRounds problem.app (rounds_of options problem) (first_state problem))) ends (counted (first_state problem) ready options.budget) in
    one_number (first_state problem) (rounds_of options problem) rounds taken takes

module _ {V : Type 0} (options : Options) (problem : Problem V) (progress : Progress V) (values : HomesAreValues V) (begun : IsBegun problem.app problem.cells problem.tasks options.budget progress) where
  -- it begins where the sequential run does
  pub begins : state_at_rest progress ≡ first_state problem
  begins =
      let cells : values_of progress.cells ≡ problem.cells = ap values_of begun.cells_are ∙ values.values_of_homes problem.cells in
      (λ i. state_of (cells i) (begun.tasks_are i))

  -- with the whole budget
  pub left_of_limit : progress.limit - progress.ended ≡ options.budget
  left_of_limit = omega (arith, begun.limit_is, begun.none_ended)

  -- and the rest of the sequential run from there is the whole
  pub rest_is_whole : rest_of_run problem.app progress ≡ end_of options problem
  rest_is_whole =
      (λ i. run_from problem.app.act (left_of_limit i) end (begins i))

  pub refusal_of_run : options.mode ≢ Serial → (fault : OverCause) (answer : Status) → IsRunFault problem.app progress fault → AnswersRounds fault answer → IsRunRefusal options problem answer
  refusal_of_run not_serial (faults.Budget created limit) answer over told =
      refusal_when_endless options problem not_serial created limit (sym rest_is_whole ∙ over.too_long) (over.limit_is ∙ begun.limit_is) over.above answer told
  refusal_of_run not_serial faults.NoRoom answer over told = inr (inr told)

  module _ (orderly : (steps : ℕ) → IsOrderly (after_steps problem.app.act steps (start_for problem))) (joins : JoinsWithNone) (finals : Finals V) (ended : IsRunEnd problem.app progress finals) where
    ends : end_of options problem ≡ Some ended.last
    ends = sym rest_is_whole ∙ ended.is_end

    last_ascends : IsInKeyOrder ended.last.log
    last_ascends = by_steps (steps_until problem.app.act options.budget end (start_for problem)) ends
      where
        by_steps : (found : Option ℕ) → option_map (λ steps. after_steps problem.app.act steps (start_for problem)) found ≡ Some ended.last → IsInKeyOrder ended.last.log
        by_steps None is = absurd cc
        by_steps (Some steps) is =
            let same : after_steps problem.app.act steps (start_for problem) ≡ ended.last = cc in
            subst (λ e. IsInKeyOrder e.log) same (ascends _ (orderly steps).log_ascending)

    -- its end is that of the sequential run
    pub run_at_end : IsRun problem.app.act options.budget (start_for problem) finals
    run_at_end = record {
      end = ended.last;
      ends = ends;
      store = ended.store;
      text = ended.text ∙ ap joined_texts (ap (λ entries. joined_by_key entries ended.last.log) begun.nothing_logged ∙ (joins ended.last.log last_ascends).1);
      count = omega (arith, ended.count, begun.none_ended);
    }

  -- it has taken as many rounds as the definition counts
  pub rounds_in_rounds : (finals : Finals V) (rounds : ℕ) → IsRoundsEnd problem.app progress finals rounds → RoundsToTheEndAreCounted problem.app → RoundsAreOneNumber problem.app → IsReady problem.app (first_state problem) → rounds_of options problem ≡ rounds
  rounds_in_rounds finals rounds ended counted one_number ready =
      rounds_to_end options problem ended.last rounds (sym rest_is_whole ∙ ended.is_end) (subst (λ state. TakesRounds problem.app rounds state) begins ended.rounds_are) counted one_number ready
