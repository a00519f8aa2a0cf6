-- What an engine that has gone on comes to where no task is pending.
use Rattle.std.proofs.Common.{◌≡◌, ◌≤◌, ◌-◌, List, [], ◌∷◌, ◌++◌, length, Option, Some, None, refl, ap, ◌∙◌, arith, subst, sym}
use Rattle.std.specs.Prelude.{IsSomeAnd}
use Rattle.std.proofs.lemmas.List.{length-append, nil_from_length}
use Rattle.task_order.specs.Key.{end}
use Rattle.cell_store.specs.Values.{values_of}
use Rattle.output_log.specs.Entries.{Entry, joined_texts}
use Rattle.output_log.specs.Laws.{JoinsAddLengths}
use Rattle.app_laws.specs.Applications.{Application}
use Rattle.app_laws.specs.declared.serial_run.Finals.{Finals}
use Rattle.app_laws.specs.Execution.{Execution}
use Rattle.commuting.specs.States.{run_from}
use Rattle.run_laws.specs.CourseLaws.{IsSequentialEnd as IsEndOfRun, NoNodesAreTheEnd}
use Rattle.run_laws.specs.Progress.{Progress, whole_state}
use Rattle.graph_update.specs.Engine.{EngineState}
use Rattle.worker_gate.specs.Fits.{Continues, Fits, Sum, drained_count}
use Rattle.worker_gate.specs.Hall.{sum_of}
use Rattle.worker_gate.specs.Turns.{HallState, SeatState}
use Rattle.hall_trials.specs.Ends.{HasGoneOn, IsSequentialEnd}
use Rattle.hall_trials.specs.Team.{IsFirst}

-- a hall that is closed with its first seat alone
pub gone_on : {A V : Type 0} (meaning : A → Application V) (hall : HallState (EngineState A V)) {origin : EngineState A V} (seat : SeatState (EngineState A V) V) (now : EngineState A V) → hall.origin ≡ origin → IsFirst hall [] seat
    → Fits meaning hall.origin now (sum_of (seat.view ∷ [])) → HasGoneOn meaning origin now
gone_on {A} {V} meaning hall seat now same first fits =
    subst (λ (e : EngineState A V). HasGoneOn meaning e now) same
    (record { sum = sum_of (seat.view ∷ []); fits = fits; drained = first.drained })

module _ {V : Type 0} {app : Application V} (origin now : Progress V) (sum : Sum V) (continues : Continues app origin now sum) where
  none_drained : JoinsAddLengths → length origin.log ≤ origin.ended → sum.drained ≡ drained_count origin → continues.drained ≡ []
  none_drained add logged drained =
      let come = continues.come in
      let all = ap length come.logged in
      let joined = add origin.log continues.entries in
      let apart = length-append continues.drained now.log in
      let ended = come.ended in
      let kept = come.sound.keys_and_counts.logged in
      let count = continues.count ∙ drained in
      nil_from_length continues.drained (omega (arith, all, joined, apart, ended, kept, count, logged))

  run_end : continues.drained ≡ [] → (run : Option (Execution V)) → run_from app.act (origin.limit - origin.ended) end (whole_state origin (values_of origin.cells)) ≡ run
      → IsSomeAnd run (IsEndOfRun app origin (values_of origin.cells) continues.drained now)
      → (finals : Finals V) → finals.store ≡ now.cells → finals.text ≡ joined_texts now.log → finals.count ≡ now.ended → IsSequentialEnd app origin finals
  run_end none None is over finals store text count = absurd over
  run_end none (Some last) is over finals store text count = record {
    last = last;
    is_end = is;
    store = store ∙ over.home;
    text = text ∙ ap (λ (before : List Entry). joined_texts (before ++ now.log)) (sym none) ∙ ap joined_texts over.log;
    count = count ∙ over.ended;
  }

  pub sequential_end : NoNodesAreTheEnd app → JoinsAddLengths → length origin.log ≤ origin.ended → sum.drained ≡ drained_count origin → now.nodes ≡ []
      → (finals : Finals V) → finals.store ≡ now.cells → finals.text ≡ joined_texts now.log → finals.count ≡ now.ended → IsSequentialEnd app origin finals
  sequential_end last add logged drained empty finals store text count =
      let over = last origin (values_of origin.cells) continues.drained continues.entries now sum.jobs continues.values continues.come empty in
      run_end (none_drained add logged drained) (run_from app.act (origin.limit - origin.ended) end (whole_state origin (values_of origin.cells))) refl
      (over.runs (origin.limit - origin.ended) over.within) finals store text count
