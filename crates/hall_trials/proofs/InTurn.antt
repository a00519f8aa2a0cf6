-- What a seat finds in its turn, what it may leave, and what it is after it.
use Rattle.std.proofs.Common.{◌≡◌, ℕ, Bool, true, false, List, [], ◌∷◌, map, Option, Some, None, refl, sym, ap, subst, ◌∙◌}
use Rattle.std.specs.Prelude.{IfNone, IfSome, IsTrue, IsFalse}
use Rattle.std.proofs.lemmas.Option.{same_Some}
use Rattle.task_order.specs.declared.key.Key.{Key}
use Rattle.app_laws.specs.Applications.{Application}
use Rattle.crew.specs.declared.answers.OverCause.{OverCause}
use Rattle.crew.specs.Jobs.{IsPerformed}
use Rattle.run_laws.specs.Answers.{IsClaimAnswer, IsFinishRefusal}
use Rattle.run_laws.specs.Events.{IsFinished, IsOverLimit, marked}
use Rattle.run_laws.specs.Jobs.{Claim, Done, FinishFault, Job}
use Rattle.run_laws.specs.Laws.{IsDone}
use Rattle.run_laws.specs.Moves.{Moved}
use Rattle.graph_update.specs.Engine.{EngineState}
use Rattle.worker_gate.specs.Known.{PerformedMayEnd}
use Rattle.worker_gate.specs.Leaving.{ClaimsAdd, EndsAdd, GivingUpAdds, IsCalled, MovedMayLeave, NothingIsDone, RefusalsAdd}
use Rattle.worker_gate.specs.Steps.{Seen, left_by}
use Rattle.worker_gate.specs.Turns.{HallState, HasEntered, HasMoved, HasWaited, IsRefused, MayLeave, SeatState, TurnState}
use Rattle.hall_trials.specs.Seated.{HasWorked, IsLeftBy, IsOnlyJob, IsSeated, jobs_claimed, jobs_left, keys_ended}

-- who has the turn at once has waited for nobody
pub at_once : {A V : Type 0} {meaning : A → Application V} {seat : SeatState (EngineState A V) V} {turn : TurnState (EngineState A V) V} → HasEntered meaning seat turn → HasWaited meaning seat turn
at_once {A} {V} {meaning} {seat} entered = record { seat_now = seat; tried = record { hall = refl; view = refl }; entered = entered }

-- who was refused is seated as before
pub refused : {A V : Type 0} {meaning : A → Application V} (hall : HallState (EngineState A V)) (seat : SeatState (EngineState A V) V) {back : SeatState (EngineState A V) V} {holder : ℕ} → IsSeated hall seat
    → IsRefused meaning seat back holder → HasWorked hall seat back
refused {A} {V} hall seat seated was = record {
  seated = record {
    here = ap (λ (s : SeatState (EngineState A V) V). s.hall) was.back_is ∙ seated.here;
    origin_is = ap (λ (s : SeatState (EngineState A V) V). s.view.origin) was.back_is ∙ seated.origin_is;
  };
  number = ap (λ (s : SeatState (EngineState A V) V). s.view.number) was.back_is;
  unjoined = ap (λ (s : SeatState (EngineState A V) V). s.view.unjoined) was.back_is;
}

module _ {V : Type 0} {app : Application V} where
  pub performed : {jobs : List (Job V)} {done : Done V} → (is : IsOnlyJob app jobs done) → IsPerformed app jobs done is.job []
  performed is = record { before = []; after = []; there = is.only; others_are = refl; node = is.node; task = is.task; effect = is.effect }

  pub key_of : {jobs : List (Job V)} {done : Done V} → IsOnlyJob app jobs done → done.task.key ∷ [] ≡ map (λ (job : Job V). job.task.key) jobs
  key_of is = ap (λ (task : _). task.key ∷ []) (sym is.task) ∙ sym (ap (map (λ (job : Job _). job.task.key)) is.only)

module _ {A V : Type 0} {meaning : A → Application V} (hall : HallState (EngineState A V)) (seat : SeatState (EngineState A V) V) (turn : TurnState (EngineState A V) V)
    (seated : IsSeated hall seat) (waited : HasWaited meaning seat turn) where
  abbrev now : Seen A V
  now = waited.seat_now.view

  of_view : {X : Type 0} (part : Seen A V → X) → part now ≡ part (record seat.view { tries = now.tries; holder = now.holder })
  of_view part = ap part waited.tried.view

  in_turn : {X : Type 0} (part : Seen A V → X) → part turn.view ≡ part (record now { found = Some turn.engine })
  in_turn part = ap part waited.entered.view

  origin_is : waited.entered.found.origin ≡ hall.origin
  origin_is = same_Some waited.entered.found.origin hall.origin (sym waited.entered.found.is_origin ∙ of_view (λ (v : Seen A V). v.origin) ∙ seated.origin_is)

  pub app_is : turn.engine.app ≡ hall.origin.app
  app_is = waited.entered.found.fits.app ∙ ap (λ (e : EngineState A V). e.app) origin_is

  pub turn_jobs : turn.view.jobs ≡ seat.view.jobs
  turn_jobs = in_turn (λ (v : Seen A V). v.jobs) ∙ of_view (λ (v : Seen A V). v.jobs)

  pub turn_found : turn.view.found ≡ Some turn.engine
  turn_found = in_turn (λ (v : Seen A V). v.found)

  pub only_job : (done : Done V) → IsOnlyJob (meaning hall.origin.app) seat.view.jobs done → IsOnlyJob (meaning turn.engine.app) turn.view.jobs done
  only_job done is =
      subst (λ (app : A). IsOnlyJob (meaning app) turn.view.jobs done) (sym app_is)
      (subst (λ (jobs : List (Job V)). IsOnlyJob (meaning hall.origin.app) jobs done) (sym turn_jobs) is)

  pub is_done : NothingIsDone meaning → PerformedMayEnd meaning → (done : Done V) → IsOnlyJob (meaning hall.origin.app) seat.view.jobs done → IsDone (meaning turn.engine.app) turn.engine.progress done
  is_done nothing may_end done is =
      let only = only_job done is in
      let same : turn.view.jobs ≡ now.jobs = in_turn (λ (v : Seen A V). v.jobs) in
      let moved = subst (λ (jobs : List (Job V)). Moved (meaning turn.engine.app) turn.engine.progress jobs turn.engine.progress turn.view.jobs []) same (nothing turn).moved in
      may_end now turn.engine turn.engine.progress turn.view.jobs [] done only.job [] waited.entered.found moved (performed only)

  -- what the seat is after the turn
  pub left_as : (engine : EngineState A V) (jobs : List (Job V)) (ended : List Key) (back : SeatState (EngineState A V) V) → back.hall ≡ turn.hall
      → ((found : EngineState A V) → turn.view.found ≡ Some found → back.view ≡ left_by jobs ended turn.view found engine) → (wanted : List (Job V)) → jobs ≡ wanted → IsLeftBy hall seat wanted back
  left_as engine jobs ended back in_hall leaves wanted same =
      let left : back.view ≡ left_by jobs ended turn.view turn.engine engine = leaves turn.engine turn_found in
      record {
        worked = record {
          seated = record {
            here = in_hall ∙ waited.entered.hall ∙ waited.tried.hall ∙ seated.here;
            origin_is = ap (λ (v : Seen A V). v.origin) left ∙ in_turn (λ (v : Seen A V). v.origin) ∙ of_view (λ (v : Seen A V). v.origin) ∙ seated.origin_is;
          };
          number = ap (λ (v : Seen A V). v.number) left ∙ in_turn (λ (v : Seen A V). v.number) ∙ of_view (λ (v : Seen A V). v.number);
          unjoined = ap (λ (v : Seen A V). v.unjoined) left ∙ in_turn (λ (v : Seen A V). v.unjoined) ∙ of_view (λ (v : Seen A V). v.unjoined);
        };
        jobs_are = ap (λ (v : Seen A V). v.jobs) left ∙ same;
      }

-- ---- what a turn may be left by, after one call

module _ {A V : Type 0} {meaning : A → Application V} (turn : TurnState (EngineState A V) V) (found : turn.view.found ≡ Some turn.engine)
    (nothing : NothingIsDone meaning) (may : MovedMayLeave meaning) (engine : EngineState A V) where
  abbrev after : TurnState (EngineState A V) V
  after = record turn { engine = engine }

  called : engine.app ≡ turn.engine.app → IsCalled meaning after turn.engine turn.view.jobs [] turn.engine
  called same = record { moved = nothing turn; app = same }

  pub may_after_nothing : engine ≡ turn.engine → MayLeave meaning after turn.view.jobs []
  may_after_nothing same =
      subst (λ (e : EngineState A V). MayLeave meaning (record turn { engine = e }) turn.view.jobs []) (sym same) (may turn turn.view.jobs [] turn.engine found (nothing turn))

  pub may_after_claim : ClaimsAdd meaning → (answer : Option (Claim V)) → engine.app ≡ turn.engine.app
      → IfSome answer (IsClaimAnswer (meaning turn.engine.app) turn.engine.progress 0 engine.progress) → IfNone answer (engine ≡ turn.engine)
      → MayLeave meaning after (jobs_claimed answer turn.view.jobs) []
  may_after_claim adds None app is unchanged = may_after_nothing unchanged
  may_after_claim adds (Some claim) app is unchanged =
      may after (jobs_claimed (Some claim) turn.view.jobs) [] turn.engine found (adds after turn.engine turn.engine turn.view.jobs [] 0 claim (called app) is)

  pub may_after_end : EndsAdd meaning → RefusalsAdd meaning → (done : Done V) (ended : Bool) → IsOnlyJob (meaning turn.engine.app) turn.view.jobs done → engine.app ≡ turn.engine.app
      → (IsTrue ended → ¬ IsOverLimit (meaning turn.engine.app) turn.engine.progress done) → (IsTrue ended → IsFinished (meaning turn.engine.app) turn.engine.progress done engine.progress)
      → (IsFalse ended → (fault : FinishFault V) × IsFinishRefusal (meaning turn.engine.app) turn.engine.progress done engine.progress fault)
      → MayLeave meaning after (jobs_left ended turn.view.jobs) (keys_ended ended turn.view.jobs)
  may_after_end ends refuses done true only app within finished refused =
      may after [] (keys_ended true turn.view.jobs) turn.engine found
      (subst (λ (keys : List Key). HasMoved meaning after [] keys turn.engine) (key_of only)
      (ends after turn.engine turn.engine turn.view.jobs [] done only.job [] (called app) (performed only) (within refl) (finished refl)))
  may_after_end ends refuses done false only app within finished refused =
      let no = refused refl in
      may after turn.view.jobs [] turn.engine found
      (refuses after turn.engine turn.engine turn.view.jobs [] done no.0 only.job [] (called app) (performed only) no.1)

  pub may_after_giving_up : GivingUpAdds meaning → engine ≡ record turn.engine { progress = marked (meaning turn.engine.app) turn.engine.progress OverCause.NoRoom } → MayLeave meaning after turn.view.jobs []
  may_after_giving_up adds same =
      may after turn.view.jobs [] turn.engine found
      (adds after turn.engine turn.engine turn.view.jobs [] (called (ap (λ (e : EngineState A V). e.app) same)) (ap (λ (e : EngineState A V). e.progress) same))
