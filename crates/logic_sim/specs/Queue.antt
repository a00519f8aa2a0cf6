-- Signals that wait in a queue.
use Rattle.std.specs.Prelude.{◌≡◌, ℕ, ◌<◌, ◌≤◌, ◌||◌, nat_eq, Bool, false, List, length, slice_index_or}
use Rattle.std.specs.List.{IsDistinct, list_any}
use Rattle.logic_sim.specs.Wiring.{is_among}

-- exactly those wait that stand in the queue, each once, and there is room for all
pub record IsQueue (waits : List Bool) (order : List ℕ) (capacity : ℕ) : Type 0 where
  pub distinct : IsDistinct nat_eq order
  pub listed : (signal : ℕ) → list_any (nat_eq signal) order ≡ slice_index_or waits signal false
  pub room : length waits ≤ capacity

-- the signals wait too
pub record AreAdded (old : List Bool) (signals : List ℕ) (new : List Bool) : Type 0 where
  pub count : length new ≡ length old
  pub each : (signal : ℕ) → signal < length old → slice_index_or new signal false ≡ (slice_index_or old signal false || is_among signals signal)
