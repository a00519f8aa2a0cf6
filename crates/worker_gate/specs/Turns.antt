-- Halls, seats and turns as their callers see them.
use Rattle.std.specs.Prelude.{◌≡◌, ◌≢◌, ℕ, List, Contains, Some}
use Rattle.atomic_table.specs.Seated.{TableId}
use Rattle.task_order.specs.declared.key.Key.{Key}
use Rattle.app_laws.specs.Applications.{Application}
use Rattle.run_laws.specs.Jobs.{Job}
use Rattle.run_laws.specs.Moves.{Moved}
use Rattle.graph_update.specs.Engine.{EngineState}
use Rattle.worker_gate.specs.declared.entry.EntryOf.{EntryOf}
use Rattle.worker_gate.specs.declared.entry.EntryOf.TheVariants as entry
use Rattle.worker_gate.specs.declared.view.View.{View}
use Rattle.worker_gate.specs.Fits.{drained_count}
use Rattle.worker_gate.specs.Steps.{IsFound, refused_by}

-- a hall: which one it is, and what it began with
pub record HallState (S : Type 0) : Type 0 where
  pub id : TableId
  pub origin : S

-- a seat: of which hall it is, and what it knows
pub record SeatState (S V : Type 0) : Type 0 where
  pub hall : TableId
  pub view : View S V

-- a turn: of which hall and seat, and the engine as it is now
pub record TurnState (S V : Type 0) : Type 0 where
  pub hall : TableId
  pub view : View S V
  pub engine : S

abbrev pub with_engine : {S V : Type 0} → TurnState S V → S → TurnState S V
with_engine turn engine = record turn { engine = engine }

module _ {A V : Type 0} (meaning : A → Application V) where
  -- the seat has the turn, with the engine that it found
  pub record HasEntered (seat : SeatState (EngineState A V) V) (turn : TurnState (EngineState A V) V) : Type 0 where
    pub hall : turn.hall ≡ seat.hall
    pub view : turn.view ≡ record seat.view { found = Some turn.engine }
    pub found : IsFound meaning seat.view turn.engine

  -- The seat was refused once more, since this holder, another seat, had the turn; the first seat only by one that was split from it
  -- and isn't joined.
  pub record IsRefused (seat back : SeatState (EngineState A V) V) (holder : ℕ) : Type 0 where
    pub back_is : back ≡ record seat { view = refused_by seat.view holder }
    pub other : holder ≢ seat.view.number
    pub unjoined : seat.view.number ≡ 0 → Contains seat.view.unjoined holder

  abbrev pub IsEntry : SeatState (EngineState A V) V → EntryOf (TurnState (EngineState A V) V) (SeatState (EngineState A V) V) → Type 0
  IsEntry seat (entry.Turn turn) = HasEntered seat turn
  IsEntry seat (entry.Busy back holder) = IsRefused seat back holder

  -- the engine has come from the one that the turn found, with these jobs for the seat's, and these keys ended; only the first seat drains
  pub record HasMoved (turn : TurnState (EngineState A V) V) (jobs : List (Job V)) (ended : List Key) (found : EngineState A V) : Type 0 where
    pub app : turn.engine.app ≡ found.app
    pub moved : Moved (meaning found.app) found.progress turn.view.jobs turn.engine.progress jobs ended
    pub drained : turn.view.number ≢ 0 → drained_count turn.engine.progress ≡ drained_count found.progress

  abbrev pub MayLeave : TurnState (EngineState A V) V → List (Job V) → List Key → Type 0
  MayLeave turn jobs ended = (found : EngineState A V) → turn.view.found ≡ Some found → HasMoved turn jobs ended found

-- the seat as it was, but for how often it was refused and by whom at last
pub record IsTried {S V : Type 0} (seat now : SeatState S V) : Type 0 where
  pub hall : now.hall ≡ seat.hall
  pub view : now.view ≡ record seat.view { tries = now.view.tries; holder = now.view.holder }

-- after some tries the seat has the turn
pub record HasWaited {A V : Type 0} (meaning : A → Application V) (seat : SeatState (EngineState A V) V) (turn : TurnState (EngineState A V) V) : Type 0 where
  pub seat_now : SeatState (EngineState A V) V
  pub tried : IsTried seat seat_now
  pub entered : HasEntered meaning seat_now turn
