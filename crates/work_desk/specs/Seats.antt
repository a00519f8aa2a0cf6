-- Desks and who sits there, as their callers see them.
use Rattle.atomic_table.specs.Seated.{TableId}

-- a desk, a giver or a worker: at which desk, and what the desk was told when it was made
pub record SeatState (K : Type 0) : Type 0 where
  pub desk : TableId
  pub key : K

-- a ticket or a task: desk and key, with what was given and hasn't come back, or was taken and isn't finished
pub record BusyState (T K : Type 0) : Type 0 where
  pub desk : TableId
  pub key : K
  pub given : T

-- work that was given and hasn't come back, and what the desk was told when it was made
pub record ErrandState (T K : Type 0) : Type 0 where
  pub key : K
  pub given : T
