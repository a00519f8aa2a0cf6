-- What is the same of seats and halls that are the same.
use Rattle.std.proofs.Common.{◌≡◌, ap, sym, subst}
use Rattle.std.specs.Prelude.{List}
use Rattle.task_order.specs.declared.key.Key.{Key}
use Rattle.app_laws.specs.Applications.{Application}
use Rattle.run_laws.specs.Jobs.{Job}
use Rattle.graph_update.specs.Engine.{EngineState}
use Rattle.worker_gate.specs.Turns.{HallState, MayLeave, SeatState, TurnState}

module _ {S V : Type 0} where
  pub same_hall : {seat other : SeatState S V} → seat ≡ other → seat.hall ≡ other.hall
  same_hall same = ap (λ (one : SeatState S V). one.hall) same

  pub same_view : {seat other : SeatState S V} → seat ≡ other → seat.view ≡ other.view
  same_view same = ap (λ (one : SeatState S V). one.view) same

-- the same turn may be left
pub may_leave_same : {A V : Type 0} (meaning : A → Application V) (jobs : List (Job V)) (ended : List Key) (turn other : TurnState (EngineState A V) V) → turn ≡ other
    → MayLeave meaning other jobs ended → MayLeave meaning turn jobs ended
may_leave_same {A} {V} meaning jobs ended turn other same may = subst (λ (one : TurnState (EngineState A V) V). MayLeave meaning one jobs ended) (sym same) may

module _ {S : Type 0} where
  pub same_id : {hall other : HallState S} → hall ≡ other → hall.id ≡ other.id
  same_id same = ap (λ (one : HallState S). one.id) same

  pub same_origin : {hall other : HallState S} → hall ≡ other → hall.origin ≡ other.origin
  same_origin same = ap (λ (one : HallState S). one.origin) same
