-- Events keep an execution sound where the ends of tasks do.
use Rattle.std.proofs.Common.{◌≡◌, List, [], ◌∷◌, sym, subst}
use Rattle.app_laws.specs.Applications.{Application}
use Rattle.run_laws.specs.Basis.{Basis}
use Rattle.crew.specs.declared.answers.OverCause.TheVariants as cause
use Rattle.run_laws.specs.Jobs.{Job}
use Rattle.run_laws.specs.Laws.{Event, Moment, EventsKeepSound, FinishesKeepSound, IsSoundMoment, Leads}
use Rattle.run_laws.specs.Progress.{Progress}
use Rattle.run_laws.specs.Sound.{IsSound}
use Rattle.run_laws.proofs.Claims.{claims_keep_sound}
use Rattle.run_laws.proofs.Marks.{marks_and_drains_keep_sound}

module _ {V : Type 0} {app : Application V} (basis : Basis app) (finishes_keep_sound : FinishesKeepSound app) where
  -- the same moment by its parts
  sound_by_parts : (now : Moment V) (progress : Progress V) (jobs : List (Job V)) (values : List V) → now.progress ≡ progress → now.jobs ≡ jobs → IsSound app progress jobs values → IsSoundMoment app now
  sound_by_parts now progress jobs values progress_is jobs_are sound =
      (values, subst (λ held. IsSound app now.progress held values) (sym jobs_are) (subst (λ (come : Progress V). IsSound app come jobs values) (sym progress_is) sound))

  pub event_keeps_sound : (event : Event V) (old now : Moment V) → IsSoundMoment app old → Leads app event old now → IsSoundMoment app now
  event_keeps_sound (Event.claims pick job) old now (values, sound) (may, claimed, jobs_are) =
      (values, subst (λ held. IsSound app now.progress held values) (sym jobs_are) (claims_keep_sound basis old.progress now.progress pick job old.jobs values sound claimed))
  event_keeps_sound (Event.finishes done) old now (values, sound) (performed, within, finished) =
      ((app.act performed.0.task values).cells, finishes_keep_sound old.progress now.progress done performed.0 old.jobs now.jobs values sound performed.1 within finished)
  event_keeps_sound (Event.exceeds done) old now (values, sound) (performed, over, progress_is, jobs_are) =
      sound_by_parts now _ old.jobs values progress_is jobs_are ((marks_and_drains_keep_sound basis).over_limit old.progress done old.jobs values sound)
  event_keeps_sound Event.drains old now (values, sound) (progress_is, jobs_are) =
      sound_by_parts now _ old.jobs values progress_is jobs_are ((marks_and_drains_keep_sound basis).drained_one old.progress old.jobs values sound)
  event_keeps_sound Event.gives_up old now (values, sound) (progress_is, jobs_are) =
      sound_by_parts now _ old.jobs values progress_is jobs_are ((marks_and_drains_keep_sound basis).marked_one old.progress cause.NoRoom old.jobs values sound)

  pub events_keep_sound : EventsKeepSound app
  events_keep_sound [] old now sound same = subst (IsSoundMoment app) (sym same) sound
  events_keep_sound (event ∷ events) old now sound (next, leads, reaches) = events_keep_sound events next now (event_keeps_sound event old next sound leads) reaches
