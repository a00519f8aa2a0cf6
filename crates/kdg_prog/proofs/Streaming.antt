-- What a run makes of the sink that its log goes to, in rounds and in mode free.
use Rattle.std.proofs.Common.{◌≡◌, ◌≢◌, ℕ, ◌+◌, ◌-◌, ◌≤◌, Bool, true, false, List, [], ◌++◌, append-nil, append_assoc, Option, Some, None, Ok, Err, refl, sym, ap, subst, ◌∙◌, inl, inr, arith, eq-eqb}
use Rattle.std.proofs.lemmas.Bool.{cond-true}
use Rattle.std.proofs.lemmas.Grind.{flat_map-append}
use Rattle.std.specs.Prelude.{IsErrAnd, MatchOption, Result, ◌==◌}
use Rattle.std.specs.Option.{option_map}
use Rattle.std.specs.Io.KnownBytes.{Appends}
use Rattle.std.proofs.KnownBytes.{Appends-trans}
use Rattle.free_pool.specs.Runs.{end_of_rounds}
use Rattle.task_order.specs.Key.{end}
use Rattle.cell_store.specs.Laws.{HomesAreValues}
use Rattle.cell_store.specs.Values.{AreAllHome, values_of}
use Rattle.output_log.specs.Entries.{Entry, joined_by_key, joined_texts}
use Rattle.output_log.specs.Laws.{JoinsWithNone}
use Rattle.app_laws.specs.Execution.{Execution, Operator, after_steps, is_clear_before, steps_until}
use Rattle.app_laws.specs.Laws.{IsFirstClear, LogsGrowAtTheEnd, StopsWhenClear}
use Rattle.app_laws.specs.Order.{IsOrderly}
use Rattle.app_laws.specs.Applications.{Application}
use Rattle.app_laws.specs.declared.serial_run.Finals.{Finals}
use Rattle.commuting.specs.States.{State, execution_from}
use Rattle.crew.specs.declared.answers.OverCause.TheVariants as cause
use Rattle.outer_edge.specs.Faults.{HasRisen}
use Rattle.outer_edge.specs.Transfers.{HasFailed, Transfer}
use Rattle.outer_edge.specs.Writing.{AppendsFront}
use Rattle.run_laws.specs.Answers.{IsBegun}
use Rattle.run_laws.specs.Progress.{Progress}
use Rattle.source_pool.specs.Kept.{IsKeptAfter, IsLastRound, sequential_text}
use Rattle.source_pool.specs.Legs.{IsEndBehind}
use Rattle.source_pool.specs.Streams.{IsFitFlow, IsFlow, TakesFront, TakesLastKept}
use Rattle.source_pool.specs.Runs.{IsRoundsEnd}
use Rattle.source_pool.specs.declared.flow.Flow.{Flow}
use Rattle.source_pool.specs.declared.flow.Flow.TheVariants as flow
use Rattle.free_pool.specs.Streams as free
use Rattle.kdg_prog.specs.declared.status.Status.{Status}
use Rattle.kdg_prog.specs.declared.status.Status.TheVariants as status
use Rattle.kdg_prog.specs.declared.words.Mode.TheVariants.{Free, Rounds, Serial}
use Rattle.kdg_prog.specs.declared.words.Options.{Options}
use Rattle.kdg_prog.specs.Problem.{KeepsText, MayStream, Problem, answer_by, first_state, is_in_rounds, is_streamed, log_within, print_of_finals, rounds_of, rounds_shown, rounds_text, start_for, tasks_line, text_shown, whole_print}
use Rattle.kdg_prog.specs.Serving.{IsHomeFlow, IsRunServed, IsStreamEnd, IsStreamed, IsWritten, LeavesRunLog}
use Rattle.kdg_prog.proofs.AtEnd.{ascends, begins, home_at_end, left_of_limit, refusal_of_run, run_at_end}
use Rattle.kdg_prog.proofs.Refusing.{none_told, print_from_run}
use Rattle.kdg_prog.proofs.Serving.{front_behind, front_of, front_of_longer, of_error}

-- what was logged when the run ended stays in front, whatever the budget
ended_in_front : {V : Type 0} (act : Operator V) (budget : ℕ) (start last : Execution V) (found : Option ℕ) →
    MatchOption found ((steps : ℕ) → steps ≤ budget → is_clear_before end (after_steps act steps start) ≡ false) (λ steps. (steps ≤ budget) × IsFirstClear act end start steps) →
    LogsGrowAtTheEnd act start → option_map (λ steps. after_steps act steps start) found ≡ Some last → (rest : List Entry) × ((after_steps act budget start).log ≡ last.log ++ rest)
ended_in_front act budget start last None stopped grows is = absurd cc
ended_in_front act budget start last (Some steps) stopped grows is =
    let same : after_steps act steps start ≡ last = cc in
    let all : steps + (budget - steps) ≡ budget = omega (arith, stopped.0) in
    let more = grows steps (budget - steps) in
    (more.0, ap (λ (n : ℕ). (after_steps act n start).log) (sym all) ∙ more.1 ∙ ap (λ (e : Execution _). e.log ++ more.0) same)

without_fault : (failed : Bool) (sink : Transfer) → (failed ≡ true → HasFailed sink) → ¬ HasFailed sink → failed ≡ false
without_fault true sink fault fine = absurd (fine (fault refl))
without_fault false sink fault fine = refl

not_serial : (options : Options) → MayStream options → options.mode ≢ Serial
not_serial options streams serial = let both : false ≡ true = sym (ap is_streamed serial) ∙ streams.0 in cc

-- the print of the whole end is the text that comes before the finals, and then what they print
module _ {V : Type 0} (options : Options) (problem : Problem V) (read : options.big ≡ 0) where
  shown : (log finals : List ℕ) (count : ℕ) → text_shown options log finals count ≡ log ++ (finals ++ tasks_line count)
  shown log finals count = cond-true (options.big == 0) _ _ (eq-eqb options.big 0 read) ∙ append_assoc log finals (tasks_line count)

  print_behind : (text : List ℕ) (finals whole : Finals V) (told : Option ℕ) → IsEndBehind text finals whole → text ++ print_of_finals problem options told finals ≡ print_of_finals problem options told whole
  print_behind text finals whole told behind =
      let last = problem.finals (values_of finals.store) ++ tasks_line finals.count in
      let rounds = rounds_text told in
      ap (λ (l : List ℕ). text ++ (l ++ rounds)) (shown finals.text (problem.finals (values_of finals.store)) finals.count)
      ∙ sym (append_assoc text (finals.text ++ last) rounds)
      ∙ ap (λ (l : List ℕ). l ++ rounds) (sym (append_assoc text finals.text last))
      ∙ ap (λ (l : List ℕ). (l ++ last) ++ rounds) (sym behind.text_is)
      ∙ (λ i. (whole.text ++ (problem.finals (values_of (sym behind.store i)) ++ tasks_line (sym behind.count i))) ++ rounds)
      ∙ ap (λ (l : List ℕ). l ++ rounds) (sym (shown whole.text (problem.finals (values_of whole.store)) whole.count))

-- there was no memory
without_room : {V : Type 0} (options : Options) (problem : Problem V) → MayStream options → (sink : Transfer) → AppendsFront sink.before sink.after (log_within options problem) → LeavesRunLog options problem sink status.NoMemory
without_room options problem streams sink front = record {
  front = front;
  kept = λ created limit told. absurd (let never : status.NoMemory ≡ status.Budget created limit = told in cc);
  told = λ never. absurd (never streams);
}

module _ {V : Type 0} (options : Options) (problem : Problem V) (progress : Progress V) (values : HomesAreValues V) (begun : IsBegun problem.app problem.cells problem.tasks options.budget progress)
    (orderly : (steps : ℕ) → IsOrderly (after_steps problem.app.act steps (start_for problem))) (joins : JoinsWithNone) (streams : MayStream options) where
  -- what is kept of the run is kept of the execution
  kept_from : (sink : Transfer) → TakesLastKept problem.app progress sink → (text : List ℕ) × KeepsText options problem text × Appends sink.before sink.after text
  kept_from sink took =
      let start = begins options problem progress values begun in
      let left = left_of_limit options problem progress values begun in (
        took.text,
        inr (record {
          rounds = took.rounds;
          state = took.state;
          keeps =
              subst (λ (most : ℕ). IsKeptAfter problem.app most [] (first_state problem) took.rounds took.state took.text) left
              (subst (λ (log : List Entry). IsKeptAfter problem.app (progress.limit - progress.ended) log (first_state problem) took.rounds took.state took.text) begun.nothing_logged
              (subst (λ (first : State V). IsKeptAfter problem.app (progress.limit - progress.ended) progress.log first took.rounds took.state took.text) start took.keeps));
          last =
              subst (λ (most : ℕ). IsLastRound problem.app most (first_state problem) took.rounds took.state) left
              (subst (λ (first : State V). IsLastRound problem.app (progress.limit - progress.ended) first took.rounds took.state) start took.last);
        }),
        took.written.0,
      )

  -- and its sequential text is that of the execution
  text_within : sequential_text problem.app progress ≡ log_within options problem
  text_within =
      let start = begins options problem progress values begun in
      let left = left_of_limit options problem progress values begun in
      (λ i. joined_texts (joined_by_key (begun.nothing_logged i) (after_steps problem.app.act (left i) (execution_from (start i))).log))
      ∙ ap joined_texts (joins (after_steps problem.app.act options.budget (start_for problem)).log (ascends _ (orderly options.budget).log_ascending)).1

  module _ (sink : Transfer) where
    front_from : TakesFront problem.app progress sink → AppendsFront sink.before sink.after (log_within options problem)
    front_from took = subst (AppendsFront sink.before sink.after) text_within took

    -- what a run in rounds comes to
    pub streamed_rounds : (flow : Flow V) → IsFlow problem.app progress sink flow → ((finals : Finals V) (rounds : ℕ) → IsRoundsEnd problem.app progress finals rounds → rounds_of options problem ≡ rounds)
        → IsStreamed options problem sink flow
    streamed_rounds (flow.Ended finals rounds failed) ended counted = record {
      whole = ended.whole;
      run = run_at_end options problem progress values begun orderly joins ended.whole (end_of_rounds problem.app progress ended.whole rounds ended.end);
      told = ap (rounds_shown options) (counted ended.whole rounds ended.end);
      text = ended.text;
      behind = ended.behind;
      all = λ none. let written = (rw (none) at ended.written) in (ended.all none, written.0, written.1);
      cut = λ some. (rw (some) at ended.written);
    }
    streamed_rounds (flow.Budget created limit failed) over counted = (
      refusal_of_run options problem progress values begun (not_serial options streams) (cause.Budget created limit) (status.Budget created limit) over.over refl,
      record {
        front = front_from over.front;
        kept = λ most allowed told may fine. kept_from sink (over.kept (without_fault failed sink over.fault fine));
        told = λ never. absurd (never streams);
      },
    )
    streamed_rounds flow.NoRoom took counted = without_room options problem streams sink (front_from took)

    -- what a run in mode free comes to
    pub streamed_free : options.mode ≡ Free → (flow : Flow V) → free.IsFlow problem.app progress sink flow → IsStreamed options problem sink flow
    streamed_free mode (flow.Ended finals rounds failed) ended =
        let elsewhere = ap is_in_rounds mode in record {
          whole = ended.whole;
          run = run_at_end options problem progress values begun orderly joins ended.whole ended.end;
          told = none_told options elsewhere (rounds_of options problem) ∙ sym (none_told options elsewhere rounds);
          text = ended.text;
          behind = ended.behind;
          all = λ none. let written = (rw (none) at ended.written) in (ended.all none, written.0, written.1);
          cut = λ some. (rw (some) at ended.written);
        }
    streamed_free mode (flow.Budget created limit failed) over = (
      refusal_of_run options problem progress values begun (not_serial options streams) (cause.Budget created limit) (status.Budget created limit) over.over refl,
      record {
        front = front_from over.front;
        kept = λ most allowed told rounds. absurd (let both : Rounds ≡ Free = sym rounds.0 ∙ mode in cc);
        told = λ never. absurd (never streams);
      },
    )
    streamed_free mode flow.NoRoom took = without_room options problem streams sink (front_from took)

-- its cells are home
pub home_in_rounds : {V : Type 0} (app : Application V) (progress : Progress V) (sink : Transfer) (flow : Flow V) → HomesAreValues V → IsFlow app progress sink flow → IsFitFlow app flow → IsHomeFlow app flow
home_in_rounds app progress sink (flow.Ended finals rounds failed) values ended fit =
    (subst AreAllHome ended.behind.store (home_at_end app progress ended.whole values (end_of_rounds app progress ended.whole rounds ended.end)), fit)
home_in_rounds app progress sink (flow.Budget created limit failed) values over fit = tt
home_in_rounds app progress sink flow.NoRoom values took fit = tt

pub home_in_free : {V : Type 0} (app : Application V) (progress : Progress V) (sink : Transfer) (flow : Flow V) → HomesAreValues V → free.IsFlow app progress sink flow → IsFitFlow app flow → IsHomeFlow app flow
home_in_free app progress sink (flow.Ended finals rounds failed) values ended fit = (subst AreAllHome ended.behind.store (home_at_end app progress ended.whole values ended.end), fit)
home_in_free app progress sink (flow.Budget created limit failed) values over fit = tt
home_in_free app progress sink flow.NoRoom values took fit = tt

module _ {V : Type 0} (options : Options) (problem : Problem V) (values : HomesAreValues V) (streams : MayStream options) (finals : Finals V) (rounds : ℕ) (failed : Bool) (sink : Transfer) (ended : IsStreamEnd options problem sink finals rounds failed) where
  -- the rest of the print
  abbrev pub rest : List ℕ
  rest = print_of_finals problem options (rounds_shown options rounds) finals

  -- the print is what was written, and the rest behind it
  print_is : answer_by options problem ≡ whole_print (ended.text ++ rest)
  print_is =
      print_from_run options problem ended.whole (rounds_shown options rounds) (ended.text ++ rest) values ended.told ended.run
      (print_behind options problem streams.1 ended.text finals ended.whole (rounds_shown options rounds) ended.behind)

  -- a write had failed
  pub served_cut : failed ≡ true → IsRunServed {T = Unit {0}} options problem sink (Err status.WriteFault)
  served_cut is =
      let written = ended.cut is in
      inl ((ended.text ++ rest, print_is, front_of_longer sink.before sink.after ended.text rest written.1, written.0), refl)

  module _ (none : failed ≡ false) where
    -- the rest of the print couldn't be made
    pub served_before_rest : {T : Type 0} (result : Result T Status) → IsErrAnd result (λ answer. answer ≡ status.NoMemory) → ((act : Operator V) (e : Execution V) → StopsWhenClear act e) → ((act : Operator V) (e : Execution V) → LogsGrowAtTheEnd act e)
        → IsRunServed options problem sink result
    served_before_rest {T} result told stops grows =
        let act = problem.app.act in
        let start = start_for problem in
        let end_of_run = ended.run in
        let all = ended.all none in
        let more = ended_in_front act options.budget start end_of_run.end (steps_until act options.budget end start) (stops act start options.budget end) (grows act start) end_of_run.ends in
        let whole : ended.text ≡ joined_texts end_of_run.end.log = sym (append-nil ended.text) ∙ ap (λ (l : List ℕ). ended.text ++ l) (sym all.0) ∙ sym ended.behind.text_is ∙ end_of_run.text in
        let log : log_within options problem ≡ ended.text ++ joined_texts more.0 =
        ap joined_texts more.1 ∙ flat_map-append (λ (entry : Entry). entry.1) end_of_run.end.log more.0 ∙ ap (λ (l : List ℕ). l ++ joined_texts more.0) (sym whole) in
        let front = subst (AppendsFront sink.before sink.after) (sym log) (front_of sink.before sink.after ended.text (joined_texts more.0) all.1) in
        of_error (IsRunServed {T = T} options problem sink) status.NoMemory result told (inr (inr (inr refl), without_room options problem streams sink front))

    -- and here it was written behind the log
    pub served_rest : {T : Type 0} (text : List ℕ) (after : Option (List ℕ)) (faults : ℕ) (result : Result T Status) → text ≡ rest
        → IsWritten (Ok text) (record { before = sink.after; after = after; faults_before = sink.faults_after; faults_after = faults }) result
        → IsRunServed options problem (record { before = sink.before; after = after; faults_before = sink.faults_before; faults_after = faults }) result
    served_rest text after faults (Ok done) is written =
        let all = ended.all none in (
          ended.text ++ text,
          print_is ∙ ap (λ (l : List ℕ). whole_print (ended.text ++ l)) (sym is),
          Appends-trans sink.before sink.after after ended.text text all.1 written.0,
          written.1 ∙ all.2,
        )
    served_rest text after faults (Err answer) is written =
        let all = ended.all none in inl (
          (
            ended.text ++ text,
            print_is ∙ ap (λ (l : List ℕ). whole_print (ended.text ++ l)) (sym is),
            front_behind sink.before sink.after after ended.text text all.1 written.0,
            subst (λ (n : ℕ). HasRisen n faults) all.2 written.1,
          ),
          written.2,
        )
