-- What holds between two turns of the worker that tells.
use Rattle.std.proofs.Common.{◌≡◌, ℕ, List, [], ◌++◌, append-nil, append_assoc, Option, Some, None, sym, ap, subst, ◌∙◌}
use Rattle.std.proofs.lemmas.Bool.{true≢false}
use Rattle.std.specs.Prelude.{IfOk, IfSome, IsOk, Result, Ok, Err}
use Rattle.app_laws.specs.Applications.{Application}
use Rattle.run_laws.specs.Jobs.{Done}
use Rattle.graph_update.specs.Engine.{EngineState}
use Rattle.source_pool.specs.TellingLaws.{NothingIsTold, TellingsAdd}
use Rattle.text_outlet.specs.declared.outlet.Outlet.{Outlet}
use Rattle.text_outlet.specs.Sending.{TellsOn}
use Rattle.worker_gate.specs.Turns.{HallState, SeatState}
use Rattle.free_pool.specs.Streams.{IsToldTo, text_of}
use Rattle.free_pool.specs.Team.{HasWorked}
use Rattle.free_pool.proofs.Working.{IsWorking}

-- ---- what the outlet has told

module _ {K : Type 0} (known : K → Option (List ℕ)) (faults : K → ℕ) where
  pub tells_on_none : NothingIsTold known faults → (outlet : Outlet) (sink : K) → TellsOn known faults outlet sink outlet sink
  tells_on_none nothing outlet sink = ([], sym (append-nil outlet.told), nothing outlet sink)

  pub tells_on_both : TellingsAdd known faults → (outlet next last : Outlet) (sink next_sink last_sink : K) → TellsOn known faults outlet sink next next_sink → TellsOn known faults next next_sink last last_sink
      → TellsOn known faults outlet sink last last_sink
  tells_on_both add outlet next last sink next_sink last_sink one two = (
    one.0 ++ two.0,
    two.1 ∙ ap (λ (front : List ℕ). front ++ two.0) one.1 ∙ append_assoc outlet.told one.0 two.0,
    add outlet next last sink next_sink last_sink one.0 two.0 one.2 two.2,
  )

module _ {A V K : Type 0} (meaning : A → Application V) (known : K → Option (List ℕ)) (faults : K → ℕ) (hall : HallState (EngineState A V)) where
  -- it works as all do, and has told what was drained
  pub record IsLeading (old : SeatState (EngineState A V) V) (outlet : Outlet) (sink : K) (seat : SeatState (EngineState A V) V) (dones : List (Done V)) (next : Outlet) (next_sink : K) : Type 0 where
    pub working : IsWorking meaning hall old seat dones
    pub told : IsToldTo (meaning hall.origin.app) hall.origin.progress seat.view.drained next.told
    pub tells : TellsOn known faults outlet sink next next_sink

  pub leading_begins : NothingIsTold known faults → (seat : SeatState (EngineState A V) V) (outlet : Outlet) (sink : K) (dones : List (Done V)) → IsWorking meaning hall seat seat dones
      → IsToldTo (meaning hall.origin.app) hall.origin.progress seat.view.drained outlet.told → IsLeading seat outlet sink seat dones outlet sink
  leading_begins nothing seat outlet sink dones working told = record { working = working; told = told; tells = tells_on_none known faults nothing outlet sink }

  -- a turn, and what was told after it
  pub told_on : (number after : ℕ) (told : List ℕ) (more : Option (List ℕ)) (next : List ℕ)
      → ((text : List ℕ) → IsToldTo (meaning hall.origin.app) hall.origin.progress number text → IsToldTo (meaning hall.origin.app) hall.origin.progress after (text ++ text_of more))
      → next ≡ told ++ text_of more → IsToldTo (meaning hall.origin.app) hall.origin.progress number told → IsToldTo (meaning hall.origin.app) hall.origin.progress after next
  told_on number after told more next on is before =
      subst (IsToldTo (meaning hall.origin.app) hall.origin.progress after) (sym is) (on told before)

  -- the same, where the drain may have been refused, but wasn't
  pub told_with : {E : Type 0} (number after : ℕ) (now next : List ℕ) (more : Result (Option (List ℕ)) E) → IsOk more
      → IfOk more (λ text. (told : List ℕ) → IsToldTo (meaning hall.origin.app) hall.origin.progress number told → IsToldTo (meaning hall.origin.app) hall.origin.progress after (told ++ text_of text))
      → IfOk more (λ text. next ≡ now ++ text_of text) → IsToldTo (meaning hall.origin.app) hall.origin.progress number now → IsToldTo (meaning hall.origin.app) hall.origin.progress after next
  told_with number after now next (Ok more) ok on is before = told_on number after now more next on is before
  told_with number after now next (Err fault) ok on is before = absurd (true≢false (sym ok))

  -- after a turn, whatever is in hand then
  pub leads_on : TellingsAdd known faults → (old seat back : SeatState (EngineState A V) V) (outlet now next : Outlet) (sink now_sink next_sink : K) (dones did : List (Done V))
      → IsLeading old outlet sink seat dones now now_sink → IsToldTo (meaning hall.origin.app) hall.origin.progress back.view.drained next.told → TellsOn known faults now now_sink next next_sink
      → IsWorking meaning hall old back did → IsLeading old outlet sink back did next next_sink
  leads_on add old seat back outlet now next sink now_sink next_sink dones did leading told tells working = record {
    working = working;
    told = told;
    tells = tells_on_both known faults add outlet now next sink now_sink next_sink leading.tells tells;
  }

  pub has_worked : (old seat : SeatState (EngineState A V) V) (dones : List (Done V)) → IsWorking meaning hall old seat dones → HasWorked hall old seat
  has_worked old seat dones working = record { seated = working.seated; number = working.number; unjoined = working.unjoined }

-- what holds where there is something, of that which may be there
pub where_some : {E X P Q : Type 0} (more : Result (Option X) E) → (P → Q) → IfOk more (λ text. IfSome text (λ some. P)) → IfOk more (λ text. IfSome text (λ some. Q))
where_some (Ok (Some text)) then holds = then holds
where_some (Ok None) then holds = tt
where_some (Err fault) then holds = tt
