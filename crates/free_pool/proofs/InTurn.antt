-- What a seat finds in its turn, and what it is after it.
use Rattle.std.proofs.Common.{◌≡◌, List, ◌++◌, Some, sym, ap, subst, ◌∙◌}
use Rattle.std.proofs.lemmas.Option.{same_Some}
use Rattle.task_order.specs.declared.key.Key.{Key}
use Rattle.app_laws.specs.Applications.{Application}
use Rattle.run_laws.specs.Jobs.{Done, Job}
use Rattle.run_laws.specs.Moves.{Moved}
use Rattle.run_laws.specs.Sound.{IsSound}
use Rattle.graph_update.specs.Engine.{EngineState}
use Rattle.worker_gate.specs.Fits.{drained_count}
use Rattle.worker_gate.specs.Steps.{Seen, left_by}
use Rattle.worker_gate.specs.Turns.{HallState, HasMoved, HasWaited, MayLeave, SeatState, TurnState}
use Rattle.free_pool.specs.Turns.{AreDone, IsSeated, MayEnd}

module _ {A V : Type 0} {meaning : A → Application V} (hall : HallState (EngineState A V)) (seat : SeatState (EngineState A V) V) (turn : TurnState (EngineState A V) V)
    (seated : IsSeated hall seat) (waited : HasWaited meaning seat turn) where
  abbrev now : Seen A V
  now = waited.seat_now.view

  of_view : {X : Type 0} (part : Seen A V → X) → part now ≡ part (record seat.view { tries = now.tries; holder = now.holder })
  of_view part = ap part waited.tried.view

  in_turn : {X : Type 0} (part : Seen A V → X) → part turn.view ≡ part (record now { found = Some turn.engine })
  in_turn part = ap part waited.entered.view

  origin_is : waited.entered.found.origin ≡ hall.origin
  origin_is = same_Some waited.entered.found.origin hall.origin (sym waited.entered.found.is_origin ∙ of_view (λ (v : Seen A V). v.origin) ∙ seated.origin_is)

  pub app_is : turn.engine.app ≡ hall.origin.app
  app_is = waited.entered.found.fits.app ∙ ap (λ (e : EngineState A V). e.app) origin_is

  pub turn_jobs : turn.view.jobs ≡ seat.view.jobs
  turn_jobs = in_turn (λ (v : Seen A V). v.jobs) ∙ of_view (λ (v : Seen A V). v.jobs)

  pub turn_found : turn.view.found ≡ Some turn.engine
  turn_found = in_turn (λ (v : Seen A V). v.found)

  -- the engine is sound with the jobs of the seat and those of others
  sound : IsSound (meaning turn.engine.app) turn.engine.progress (now.jobs ++ waited.entered.found.others.jobs) waited.entered.found.fits.progress.values
  sound =
      subst (λ (app : A). IsSound (meaning app) turn.engine.progress (now.jobs ++ waited.entered.found.others.jobs) waited.entered.found.fits.progress.values)
      (sym waited.entered.found.fits.app) waited.entered.found.fits.progress.come.sound

  now_jobs : seat.view.jobs ≡ now.jobs
  now_jobs = sym (of_view (λ (v : Seen A V). v.jobs))

  pub may_end : (dones : List (Done V)) → AreDone (meaning hall.origin.app) seat.view.jobs dones → MayEnd (meaning turn.engine.app) turn.engine.progress dones
  may_end dones are = record {
    jobs = now.jobs;
    others = waited.entered.found.others.jobs;
    values = waited.entered.found.fits.progress.values;
    sound = sound;
    done = subst (λ (app : A). AreDone (meaning app) now.jobs dones) (sym app_is) (subst (λ (jobs : List (Job V)). AreDone (meaning hall.origin.app) jobs dones) now_jobs are);
  }

  -- what was performed of the jobs that the seat has is that of the jobs in the turn
  pub done_in_turn : (dones : List (Done V)) → AreDone (meaning hall.origin.app) seat.view.jobs dones → AreDone (meaning turn.engine.app) turn.view.jobs dones
  done_in_turn dones are =
      subst (λ (app : A). AreDone (meaning app) turn.view.jobs dones) (sym app_is)
      (subst (λ (jobs : List (Job V)). AreDone (meaning hall.origin.app) jobs dones) (sym turn_jobs) are)

  -- the turn may be left with what was done to the engine
  pub may_leave : (engine : EngineState A V) (jobs : List (Job V)) (ended : List Key) → engine.app ≡ turn.engine.app
      → Moved (meaning turn.engine.app) turn.engine.progress turn.view.jobs engine.progress jobs ended → drained_count engine.progress ≡ drained_count turn.engine.progress
      → MayLeave meaning (record turn { engine = engine }) jobs ended
  may_leave engine jobs ended app moved drained found is =
      let same : turn.engine ≡ found = same_Some turn.engine found (sym turn_found ∙ is) in
      subst (λ (one : EngineState A V). HasMoved meaning (record turn { engine = engine }) jobs ended one) same
      (record { app = app; moved = moved; drained = λ not. drained })

  module _ (engine : EngineState A V) (jobs : List (Job V)) (ended : List Key) (back : SeatState (EngineState A V) V)
      (in_hall : back.hall ≡ turn.hall) (left : back.view ≡ left_by jobs ended turn.view turn.engine engine) where
    pub same_number : back.view.number ≡ seat.view.number
    same_number = ap (λ (v : Seen A V). v.number) left ∙ in_turn (λ (v : Seen A V). v.number) ∙ of_view (λ (v : Seen A V). v.number)

    pub same_unjoined : back.view.unjoined ≡ seat.view.unjoined
    same_unjoined = ap (λ (v : Seen A V). v.unjoined) left ∙ in_turn (λ (v : Seen A V). v.unjoined) ∙ of_view (λ (v : Seen A V). v.unjoined)

    pub jobs_after : back.view.jobs ≡ jobs
    jobs_after = ap (λ (v : Seen A V). v.jobs) left

    pub still_seated : IsSeated hall back
    still_seated = record {
      here = in_hall ∙ waited.entered.hall ∙ waited.tried.hall ∙ seated.here;
      origin_is = ap (λ (v : Seen A V). v.origin) left ∙ in_turn (λ (v : Seen A V). v.origin) ∙ of_view (λ (v : Seen A V). v.origin) ∙ seated.origin_is;
    }
