-- Sets that can be marked with their numbers.
use Rattle.std.specs.Prelude.{ℕ, ◌<◌, ◌^◌, List, All, length}
use Rattle.rw_sets.specs.Accesses.{Accesses, IsInRange}

-- their locations are below the bound, and they are few enough for their numbers
pub record CanMark (sets : List Accesses) (cells : ℕ) : Type 0 where
  pub in_range : All (λ set. IsInRange set cells) sets
  pub few : length sets < 2 ^ 32
