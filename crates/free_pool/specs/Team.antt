-- The seats of a team of workers.
use Rattle.std.specs.Prelude.{◌≡◌, ℕ, zero, suc, List, [], ◌∷◌, ◌++◌, map}
use Rattle.std.specs.List.{AllByRecursion}
use Rattle.plain_laws.specs.Ranges.{down_from}
use Rattle.app_laws.specs.Applications.{Application}
use Rattle.graph_update.specs.Engine.{EngineState}
use Rattle.worker_gate.specs.Turns.{HallState, SeatState}
use Rattle.free_pool.specs.Streams.{IsTellable, IsToldTo}
use Rattle.free_pool.specs.Turns.{IsSeated}

-- the numbers from 1 to this one
abbrev pub up_to : ℕ → List ℕ
up_to zero = []
up_to (suc n) = up_to n ++ suc n ∷ []

-- The first seat of a hall, from which so many others were split, and these others, which aren't joined to it.
pub record IsTeam {A V : Type 0} (hall : HallState (EngineState A V)) (others : ℕ) (seat : SeatState (EngineState A V) V) (seats : List (SeatState (EngineState A V) V)) : Type 0 where
  pub seated : IsSeated hall seat
  pub first : seat.view.number ≡ 0
  pub unjoined : seat.view.unjoined ≡ down_from others
  pub numbers : map (λ seat. seat.view.number) seats ≡ up_to others
  pub members : AllByRecursion (IsSeated hall) seats

-- a worker that has this application in hand may work at the hall, in this seat
pub record MayWork {A V : Type 0} (hall : HallState (EngineState A V)) (app : A) (seat : SeatState (EngineState A V) V) : Type 0 where
  pub seated : IsSeated hall seat
  pub app_is : app ≡ hall.origin.app
  pub idle : seat.view.jobs ≡ []

-- after its work the seat is of the hall still, with its number and what was split from it
pub record HasWorked {A V : Type 0} (hall : HallState (EngineState A V)) (old now : SeatState (EngineState A V) V) : Type 0 where
  pub seated : IsSeated hall now
  pub number : now.view.number ≡ old.view.number
  pub unjoined : now.view.unjoined ≡ old.view.unjoined

-- a post is at this hall, where a worker may work in its seat; where that is the first, so many others are split from it
pub record IsReady {A V : Type 0} (hall : HallState (EngineState A V)) (others : ℕ) (at : HallState (EngineState A V)) (app : A) (seat : SeatState (EngineState A V) V) : Type 0 where
  pub at_is : at ≡ hall
  pub may : MayWork at app seat
  pub unjoined : seat.view.number ≡ 0 → seat.view.unjoined ≡ down_from others

module _ {A V : Type 0} (meaning : A → Application V) (hall : HallState (EngineState A V)) where
  -- a worker that has this application in hand may work in this seat, the first one, and tell what is drained, where this was told
  pub record MayLead (app : A) (seat : SeatState (EngineState A V) V) (text : List ℕ) : Type 0 where
    pub may : MayWork hall app seat
    pub first : seat.view.number ≡ 0
    pub tellable : IsTellable (meaning hall.origin.app) hall.origin.progress
    pub told : IsToldTo (meaning hall.origin.app) hall.origin.progress seat.view.drained text

  -- after that work it has told just what was drained
  pub record HasLed (old now : SeatState (EngineState A V) V) (text : List ℕ) : Type 0 where
    pub worked : HasWorked hall old now
    pub told : IsToldTo (meaning hall.origin.app) hall.origin.progress now.view.drained text
