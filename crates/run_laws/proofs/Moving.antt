-- What each call of an engine leaves is a move, and moves follow one another.
use Rattle.std.proofs.Common.{◌≡◌, ℕ, List, [], ◌∷◌, ◌++◌, Option, Some, refl, sym, ap, subst, ◌∙◌}
use Rattle.std.specs.Option.{option_or}
use Rattle.plain_laws.specs.Options.{none_is_not_some}
use Rattle.task_order.specs.declared.key.Key.{Key}
use Rattle.app_laws.specs.Applications.{Application}
use Rattle.crew.specs.declared.answers.Claim.TheVariants as claim
use Rattle.crew.specs.declared.answers.FinishFault.TheVariants as fault
use Rattle.crew.specs.declared.answers.OverCause.{OverCause}
use Rattle.crew.specs.declared.answers.OverCause.TheVariants as cause
use Rattle.run_laws.specs.CourseLaws.{ended_by}
use Rattle.run_laws.specs.Events.{drained, marked}
use Rattle.run_laws.specs.Jobs.{Job}
use Rattle.run_laws.specs.Laws.{Event, Leads, Moment, Reaches}
use Rattle.run_laws.specs.Moves.{ClaimAnswersMove, DrainsMove, EndsMove, GivingUpMoves, MarksStay, Moved, MovesFollow, RefusalsMove, StaysAreMoves}
use Rattle.run_laws.specs.Progress.{Progress}

abbrev at : {V : Type 0} → Progress V → List (Job V) → Moment V
at progress jobs = record { progress = progress; jobs = jobs }

ended_by-append : {V : Type 0} (events more : List (Event V)) → ended_by (events ++ more) ≡ ended_by events ++ ended_by more
ended_by-append [] more = refl
ended_by-append (Event.finishes done ∷ events) more = ap (λ (keys : List Key). done.task.key ∷ keys) (ended_by-append events more)
ended_by-append (Event.claims pick job ∷ events) more = ended_by-append events more
ended_by-append (Event.exceeds done ∷ events) more = ended_by-append events more
ended_by-append (Event.drains ∷ events) more = ended_by-append events more
ended_by-append (Event.gives_up ∷ events) more = ended_by-append events more

mark_before : (old : Option OverCause) (mark new : OverCause) → old ≡ Some mark → option_or old (Some new) ≡ Some mark
mark_before old mark new is = ap (λ (over : Option OverCause). option_or over (Some new)) is

module _ {V : Type 0} (app : Application V) where
  pub stays_are_moves : StaysAreMoves app
  stays_are_moves now jobs = record { events = []; reaches = refl; ended_are = refl }

  reaches-append : (events more : List (Event V)) (old mid now : Moment V) → Reaches app events old mid → Reaches app more mid now → Reaches app (events ++ more) old now
  reaches-append [] more old mid now same reaches = subst (λ (moment : Moment V). Reaches app more moment now) same reaches
  reaches-append (event ∷ events) more old mid now (next, leads, rest) reaches = (next, leads, reaches-append events more next mid now rest reaches)

  pub moves_follow : MovesFollow app
  moves_follow old mid now had held have first second one two = record {
    events = one.events ++ two.events;
    reaches = reaches-append one.events two.events (at old had) (at mid held) (at now have) one.reaches two.reaches;
    ended_are = ended_by-append one.events two.events ∙ ap (λ (keys : List Key). keys ++ ended_by two.events) one.ended_are ∙ ap (λ (keys : List Key). first ++ keys) two.ended_are;
  }

  by_event : (event : Event V) (old now : Progress V) (had have : List (Job V)) → Leads app event (at old had) (at now have) → Moved app old had now have (ended_by (event ∷ []))
  by_event event old now had have leads = record { events = event ∷ []; reaches = (at now have, leads, refl); ended_are = refl }

  by_nothing : (old now : Progress V) (jobs : List (Job V)) → now ≡ old → Moved app old jobs now jobs []
  by_nothing old now jobs same = subst (λ (come : Progress V). Moved app old jobs come jobs []) (sym same) (stays_are_moves old jobs)

  pub claim_answers_move : ClaimAnswersMove app
  claim_answers_move old now pick (claim.Over cause) jobs answered = by_nothing old now jobs answered.1
  claim_answers_move old now pick claim.Ended jobs answered = by_nothing old now jobs answered.2
  claim_answers_move old now pick claim.NotYet jobs answered = by_nothing old now jobs answered.3
  claim_answers_move old now pick (claim.Job job) jobs answered = by_event (Event.claims pick job) old now jobs (job ∷ jobs) (answered.0, answered.1, refl)

  pub ends_move : EndsMove app
  ends_move old now done job jobs others performed within finished = by_event (Event.finishes done) old now jobs others ((job, performed), within, finished)

  pub refusals_move : RefusalsMove app
  refusals_move old now done (fault.Budget back created limit) job jobs others performed refused =
      by_event (Event.exceeds done) old now jobs jobs ((job, (others, performed)), refused.1, refused.4, refl)
  refusals_move old now done (fault.NoRoom back) job jobs others performed refused = by_nothing old now jobs refused.2

  pub drains_move : DrainsMove app
  drains_move now jobs = by_event Event.drains now (drained app now) jobs jobs (refl, refl)

  pub giving_up_moves : GivingUpMoves app
  giving_up_moves now jobs = by_event Event.gives_up now (marked app now cause.NoRoom) jobs jobs (refl, refl)

  event_keeps_mark : (event : Event V) (old now : Moment V) (mark : OverCause) → Leads app event old now → old.progress.over ≡ Some mark → now.progress.over ≡ Some mark
  event_keeps_mark (Event.claims pick job) old now mark (may, claimed, jobs_are) stands = absurd (none_is_not_some _ (sym may ∙ stands))
  event_keeps_mark (Event.finishes done) old now mark (performed, within, finished) stands = ap (λ (come : Progress V). come.over) finished.after ∙ stands
  event_keeps_mark (Event.exceeds done) old now mark (performed, over, progress_is, jobs_are) stands =
      ap (λ (come : Progress V). come.over) progress_is ∙ mark_before old.progress.over mark _ stands
  event_keeps_mark Event.drains old now mark (progress_is, jobs_are) stands = ap (λ (come : Progress V). come.over) progress_is ∙ stands
  event_keeps_mark Event.gives_up old now mark (progress_is, jobs_are) stands =
      ap (λ (come : Progress V). come.over) progress_is ∙ mark_before old.progress.over mark cause.NoRoom stands

  events_keep_mark : (events : List (Event V)) (old now : Moment V) (mark : OverCause) → Reaches app events old now → old.progress.over ≡ Some mark → now.progress.over ≡ Some mark
  events_keep_mark [] old now mark same stands = ap (λ (moment : Moment V). moment.progress.over) same ∙ stands
  events_keep_mark (event ∷ events) old now mark (next, leads, reaches) stands =
      events_keep_mark events next now mark reaches (event_keeps_mark event old next mark leads stands)

  pub marks_stay : MarksStay app
  marks_stay old now had have ended mark moved stands = events_keep_mark moved.events (at old had) (at now have) mark moved.reaches stands
