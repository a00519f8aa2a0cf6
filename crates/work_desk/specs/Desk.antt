-- What holds of a desk between any two steps, and what each kind of step makes of a seat.
use Rattle.std.specs.Prelude.{◌≡◌, ◌≢◌, ℕ, [], ◌∷◌, Option, Some, None}
use mathlib.Core.Option as optional
use Rattle.atomic_table.specs.Table.{State, Me, Step}
use Rattle.work_desk.specs.declared.view.View.{View}
use Rattle.work_desk.specs.declared.view.Part.{Part}
use Rattle.work_desk.specs.declared.view.Part.TheVariants.{Shut, Open, Giver, Worker}

-- how a desk stands: with one seat, or with nothing given, something laid, taken, or finished
pub data Stand (T : Type 0) : Type 0 where
  unopened : Stand T
  opened : Stand T
  idle : ℕ → Stand T
  laid : T → Stand T
  taken : T → Stand T
  finished : T → T → Stand T

-- the word of a desk where something is laid, taken or finished
abbrev pub LAID : ℕ
LAID = 1

abbrev pub TAKEN : ℕ
TAKEN = 2

abbrev pub FINISHED : ℕ
FINISHED = 3

-- what is known of what lies there
abbrev pub Fits : {T : Type 0} → (T → Type 0) → (T → T → Type 0) → Stand T → Type 0
Fits may done unopened = Unit {0}
Fits may done opened = Unit {0}
Fits may done (idle word) = (word ≢ LAID) × (word ≢ TAKEN) × (word ≢ FINISHED)
Fits may done (laid x) = may x
Fits may done (taken x) = Unit {0}
Fits may done (finished x y) = done x y

module _ {T K : Type 0} where
  abbrev pub seen : K → Part T → View T K
  seen key part = record { key = key; part = part }

  abbrev pub givers : View T K → View T K
  givers v = seen v.key (Giver None)

  abbrev pub workers : View T K → View T K
  workers v = seen v.key (Worker None)

  -- the desk with this word, in the slot this, and a giver and a worker with these in hand
  abbrev pub shared : K → ℕ → optional.Option (Option T) → Option T → Option T → State (Option T) (View T K)
  shared key word home given has = record { words = word ∷ []; homes = home ∷ []; views = seen key (Giver given) ∷ seen key (Worker has) ∷ [] }

  abbrev pub state_of : K → Stand T → State (Option T) (View T K)
  state_of key unopened = record { words = 0 ∷ []; homes = optional.some None ∷ []; views = seen key Shut ∷ [] }
  state_of key opened = record { words = 0 ∷ []; homes = optional.none ∷ []; views = seen key Open ∷ [] }
  state_of key (idle word) = shared key word optional.none None None
  state_of key (laid x) = shared key LAID (optional.some (Some x)) (Some x) None
  state_of key (taken x) = shared key TAKEN optional.none (Some x) (Some x)
  state_of key (finished x y) = shared key FINISHED (optional.some (Some y)) (Some x) None

  -- The desk stands in one of these ways. What is laid or finished lies in the slot; else a seat has the slot.
  pub record DeskRule (may : T → Type 0) (done : T → T → Type 0) (key : K) (s : State (Option T) (View T K)) : Type 0 where
    pub stand : Stand T
    pub fits : Fits may done stand
    pub is : s ≡ state_of key stand

-- a seat's view, with the slot where the seat has it
abbrev pub Seat : Type 0 → Type 0 → Type 0
Seat T K = Me (Option T) (View T K)

module _ {T K : Type 0} where
  -- the seat of a giver that may give, with this in the slot
  abbrev pub giving : K → Option T → Seat T K
  giving key slot = (seen key (Giver None), (0, slot) ∷ [])

  -- the seat of a giver that has given this
  abbrev pub waiting : K → T → Seat T K
  waiting key x = (seen key (Giver (Some x)), [])

  -- the seat of a worker with nothing in hand
  abbrev pub resting : K → Seat T K
  resting key = (seen key (Worker None), [])

  -- the seat of a worker that has taken this, and has that in the slot
  abbrev pub working : K → T → Option T → Seat T K
  working key x slot = (seen key (Worker (Some x)), (0, slot) ∷ [])

  abbrev pub Opens : Step (Option T) → Seat T K → ℕ → Seat T K → Type 0
  Opens step before found after = after ≡ (seen before.0.key Open, (0, None) ∷ [])

  abbrev pub Lays : Step (Option T) → Seat T K → ℕ → Seat T K → Type 0
  Lays step before found after = (x : T) → before.1 ≡ (0, Some x) ∷ [] → after ≡ waiting before.0.key x

  -- what is found laid, the worker has
  pub record HasTaken (may : K → T → Type 0) (before after : Seat T K) : Type 0 where
    pub x : T
    pub is : after ≡ working before.0.key x (Some x)
    pub fits : may before.0.key x

  pub record Takes (may : K → T → Type 0) (step : Step (Option T)) (before : Seat T K) (found : ℕ) (after : Seat T K) : Type 0 where
    pub has : found ≡ LAID → HasTaken may before after
    pub none : found ≢ LAID → after ≡ before

  abbrev pub Finishes : Step (Option T) → Seat T K → ℕ → Seat T K → Type 0
  Finishes step before found after = after ≡ resting before.0.key

  -- what is found finished, the giver has
  pub record HasCollected (done : K → T → T → Type 0) (before after : Seat T K) : Type 0 where
    pub y : T
    pub is : after ≡ giving before.0.key (Some y)
    pub fits : (x : T) → before.0.part ≡ Giver (Some x) → done before.0.key x y

  pub record Collects (done : K → T → T → Type 0) (step : Step (Option T)) (before : Seat T K) (found : ℕ) (after : Seat T K) : Type 0 where
    pub has : found ≡ FINISHED → HasCollected done before after
    pub none : found ≢ FINISHED → after ≡ before

  -- what is found laid, the giver has again
  pub record Revokes (step : Step (Option T)) (before : Seat T K) (found : ℕ) (after : Seat T K) : Type 0 where
    pub has : found ≡ LAID → (x : T) → before.0.part ≡ Giver (Some x) → after ≡ giving before.0.key (Some x)
    pub none : found ≢ LAID → after ≡ before

  abbrev pub Closes : Step (Option T) → Seat T K → ℕ → Seat T K → Type 0
  Closes step before found after = after ≡ before
