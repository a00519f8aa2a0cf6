-- What the first seat has told after a turn in which it drained.
use Rattle.std.proofs.Common.{◌≡◌, ◌==◌, ℕ, List, ◌++◌, append-nil, if◌then◌else◌, Option, Some, None, sym, ap, subst, ◌∙◌}
use Rattle.std.proofs.lemmas.Option.{same_Some}
use Rattle.std.specs.Prelude.{IfOk, Result, Ok, Err}
use Rattle.task_order.specs.declared.key.Key.{Key}
use Rattle.output_log.specs.Entries.{joined_texts}
use Rattle.output_log.specs.Laws.{JoinsAddLengths, TextsFollow}
use Rattle.app_laws.specs.Applications.{Application}
use Rattle.run_laws.specs.CourseLaws.{DrainsKeepCourse}
use Rattle.run_laws.specs.Events.{drainable}
use Rattle.run_laws.specs.Jobs.{Job}
use Rattle.run_laws.specs.Moves.{Moved}
use Rattle.run_laws.specs.Progress.{Progress}
use Rattle.graph_update.specs.Engine.{EngineState}
use Rattle.source_pool.specs.KeptLaws.{DrainedEntriesAreFirst}
use Rattle.worker_gate.specs.Fits.{Continues, Sum, drained_count}
use Rattle.worker_gate.specs.Laws.{MovesContinue}
use Rattle.worker_gate.specs.Steps.{Seen, left_by, with_others}
use Rattle.worker_gate.specs.Turns.{HallState, HasMoved, HasWaited, MayLeave, SeatState, TurnState}
use Rattle.free_pool.specs.Streams.{HasDrainedAt, IsDrain, IsTellable, IsToldTo, text_of}
use Rattle.free_pool.specs.Turns.{IsSeated}
use Rattle.free_pool.proofs.Told.{drain_told}

-- what the laws below say
pub record TellingLaws {V : Type 0} (app : Application V) : Type 0 where
  pub lengths : JoinsAddLengths
  pub texts : TextsFollow
  pub first : DrainedEntriesAreFirst app
  pub drains : DrainsKeepCourse app
  pub moves : MovesContinue app

module _ {V : Type 0} {app : Application V} (laws : TellingLaws app) (origin before now : Progress V) (sum : Sum V) (told : List ℕ) (tellable : IsTellable app origin)
    (continues : Continues app origin before sum) where
  -- by what was drained
  tells_on : (more : Option (List ℕ)) → IsDrain app before now more → IsToldTo app origin (drained_count before) told → IsToldTo app origin (drained_count now) (told ++ text_of more)
  tells_on None same is =
      subst (λ (text : List ℕ). IsToldTo app origin (drained_count now) text) (sym (append-nil told))
      (subst (λ (p : Progress V). IsToldTo app origin (drained_count p) told) (sym same) is)
  tells_on (Some text) drain is =
      subst (λ (more : List ℕ). IsToldTo app origin (drained_count now) (told ++ more)) (sym drain.0)
      (subst (λ (p : Progress V). IsToldTo app origin (drained_count p) (told ++ joined_texts (drainable app before.nodes before.log))) (sym drain.1)
      (drain_told origin laws.lengths laws.texts laws.first tellable.sound tellable.logged before sum told continues is laws.drains))

module _ {A V : Type 0} {meaning : A → Application V} (hall : HallState (EngineState A V)) (seat : SeatState (EngineState A V) V) (turn : TurnState (EngineState A V) V)
    (seated : IsSeated hall seat) (waited : HasWaited meaning seat turn) (first : seat.view.number ≡ 0) where
  abbrev now : Seen A V
  now = waited.seat_now.view

  abbrev others : Sum V
  others = waited.entered.found.others

  of_view : {X : Type 0} (part : Seen A V → X) → part now ≡ part (record seat.view { tries = now.tries; holder = now.holder })
  of_view part = ap part waited.tried.view

  in_turn : {X : Type 0} (part : Seen A V → X) → part turn.view ≡ part (record now { found = Some turn.engine })
  in_turn part = ap part waited.entered.view

  origin_is : waited.entered.found.origin ≡ hall.origin
  origin_is = same_Some waited.entered.found.origin hall.origin (sym waited.entered.found.is_origin ∙ of_view (λ (v : Seen A V). v.origin) ∙ seated.origin_is)

  app_is : turn.engine.app ≡ hall.origin.app
  app_is = waited.entered.found.fits.app ∙ ap (λ (e : EngineState A V). e.app) origin_is

  -- the engine that the turn finds goes on from the origin
  continues : Continues (meaning hall.origin.app) hall.origin.progress turn.engine.progress (with_others now others)
  continues = subst (λ (e : EngineState A V). Continues (meaning e.app) e.progress turn.engine.progress (with_others now others)) origin_is waited.entered.found.fits.progress

  -- the number that was drained is the one that the seat knows
  counted : drained_count turn.engine.progress ≡ seat.view.drained
  counted =
      waited.entered.found.fits.progress.count ∙ waited.entered.found.drained (of_view (λ (v : Seen A V). v.number) ∙ first)
      ∙ of_view (λ (v : Seen A V). v.drained)

  pub told_after : TellingLaws (meaning hall.origin.app) → IsTellable (meaning hall.origin.app) hall.origin.progress → (engine : EngineState A V) (jobs : List (Job V)) (ended : List Key)
      (back : SeatState (EngineState A V) V) → back.view ≡ left_by jobs ended turn.view turn.engine engine → (more : Option (List ℕ))
      → HasDrainedAt (meaning turn.engine.app) turn.engine.progress turn.view.jobs engine.progress jobs ended more
      → (told : List ℕ) → IsToldTo (meaning hall.origin.app) hall.origin.progress seat.view.drained told
      → IsToldTo (meaning hall.origin.app) hall.origin.progress back.view.drained (told ++ text_of more)
  told_after laws tellable engine jobs ended back left more drained told is =
      let app = meaning hall.origin.app in
      let origin = hall.origin.progress in
      let own = subst (λ (a : A). HasDrainedAt (meaning a) turn.engine.progress turn.view.jobs engine.progress jobs ended more) app_is drained in
      let moved = subst (λ (js : List (Job V)). Moved app turn.engine.progress js own.before jobs ended) (in_turn (λ (v : Seen A V). v.jobs)) own.moved in
      let goes = laws.moves origin turn.engine.progress own.before now.jobs jobs now.finished ended now.over others continues moved in
      let number : turn.view.number ≡ 0 = in_turn (λ (v : Seen A V). v.number) ∙ of_view (λ (v : Seen A V). v.number) ∙ first in
      let after : back.view.drained ≡ drained_count engine.progress =
      ap (λ (v : Seen A V). v.drained) left ∙ ap (λ (n : ℕ). if n == 0 then drained_count engine.progress else turn.view.drained) number in
      let at = subst (λ (n : ℕ). IsToldTo app origin n told) (sym (own.count ∙ counted)) is in
      subst (λ (n : ℕ). IsToldTo app origin n (told ++ text_of more)) (sym after)
      (tells_on laws origin own.before engine.progress _ told tellable goes more own.drain at)

  -- the first seat may leave its turn with what was done to the engine, a drain among it
  pub may_leave_first : (engine : EngineState A V) (jobs : List (Job V)) (ended : List Key) → engine.app ≡ turn.engine.app
      → Moved (meaning turn.engine.app) turn.engine.progress turn.view.jobs engine.progress jobs ended → MayLeave meaning (record turn { engine = engine }) jobs ended
  may_leave_first engine jobs ended app moved found is =
      let number : turn.view.number ≡ 0 = in_turn (λ (v : Seen A V). v.number) ∙ of_view (λ (v : Seen A V). v.number) ∙ first in
      let own : turn.view.found ≡ Some turn.engine = in_turn (λ (v : Seen A V). v.found) in
      let same : turn.engine ≡ found = same_Some turn.engine found (sym own ∙ is) in
      subst (λ (one : EngineState A V). HasMoved meaning (record turn { engine = engine }) jobs ended one) same
      (record { app = app; moved = moved; drained = λ not. absurd (not number) })

  -- the same, where the drain may have been refused
  pub told_where : {E : Type 0} → TellingLaws (meaning hall.origin.app) → IsTellable (meaning hall.origin.app) hall.origin.progress → (engine : EngineState A V) (jobs : List (Job V)) (ended : List Key)
      (back : SeatState (EngineState A V) V) → back.view ≡ left_by jobs ended turn.view turn.engine engine → (more : Result (Option (List ℕ)) E)
      → IfOk more (HasDrainedAt (meaning turn.engine.app) turn.engine.progress turn.view.jobs engine.progress jobs ended)
      → IfOk more (λ text. (told : List ℕ) → IsToldTo (meaning hall.origin.app) hall.origin.progress seat.view.drained told → IsToldTo (meaning hall.origin.app) hall.origin.progress back.view.drained (told ++ text_of text))
  told_where laws tellable engine jobs ended back left (Ok more) drained = told_after laws tellable engine jobs ended back left more drained
  told_where laws tellable engine jobs ended back left (Err fault) drained = tt
