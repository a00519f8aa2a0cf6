-- Seats that are split from a hall's first one, and the posts of its workers.
use Rattle.std.specs.Prelude.{◌≡◌, ◌<◌, ℕ, suc, List, [], get_or, length}
use Rattle.plain_laws.specs.Ranges.{down_from}
use Rattle.graph_update.specs.Engine.{EngineState}
use Rattle.worker_gate.specs.Fits.{drained_count}
use Rattle.worker_gate.specs.Turns.{HallState, SeatState}
use Rattle.hall_trials.specs.Seated.{IsSeated}

-- what holds of each place and what is there, and of what is there in two lists
abbrev pub EachAt : {X : Type 0} → (ℕ → X → Type 0) → List X → Type 0
EachAt {X} P xs = (k : ℕ) (x : X) → k < length xs → P k (get_or xs k x)

abbrev pub EachPair : {X Y : Type 0} → (X → Y → Type 0) → List X → List Y → Type 0
EachPair {X} {Y} R xs ys = (k : ℕ) (x : X) (y : Y) → k < length xs → R (get_or xs k x) (get_or ys k y)

module _ {A V : Type 0} (hall : HallState (EngineState A V)) where
  -- a seat with this number, from which these seats were split that aren't joined
  pub record IsSplit (number : ℕ) (unjoined : List ℕ) (seat : SeatState (EngineState A V) V) : Type 0 where
    pub seated : IsSeated hall seat
    pub number_is : seat.view.number ≡ number
    pub unjoined_are : seat.view.unjoined ≡ unjoined

  -- the first seat, which has drained nothing
  pub record IsFirst (unjoined : List ℕ) (seat : SeatState (EngineState A V) V) : Type 0 where
    pub split : IsSplit 0 unjoined seat
    pub drained : seat.view.drained ≡ drained_count hall.origin.progress

  -- a post at this hall, where a worker may work in the seat with this number
  pub record IsPosted (number : ℕ) (at : HallState (EngineState A V)) (app : A) (seat : SeatState (EngineState A V) V) : Type 0 where
    pub at_is : at ≡ hall
    pub app_is : app ≡ hall.origin.app
    pub split : IsSplit number [] seat
    pub idle : seat.view.jobs ≡ []

module _ {A V P : Type 0} (hall : HallState (EngineState A V)) (at : P → HallState (EngineState A V)) (app : P → A) (seat : P → SeatState (EngineState A V) V) where
  -- so many seats are split from the first one, and each has its post
  pub record ArePosts (n : ℕ) (first : SeatState (EngineState A V) V) (posts : List P) : Type 0 where
    pub first_is : IsFirst hall (down_from n) first
    pub splits : first.view.splits ≡ n
    pub long : length posts ≡ n
    pub posts_are : EachAt (λ k post. IsPosted hall (suc k) (at post) (app post) (seat post)) posts
