-- Where a location is in an ascending list, or where it would go.
use Rattle.std.specs.Prelude.{◌≡◌, ℕ, ◌<◌, ◌≤◌, length, slice_index_or}
use Rattle.rw_sets.specs.declared.access.Access.TheVariants.{Read}
use Rattle.rw_sets.specs.Accesses.{Accesses}

-- the location at place i
abbrev pub location_at : Accesses → ℕ → ℕ
location_at l i = let pair = slice_index_or l i (0, Read) in pair.0

-- the location is at place i
pub record IsAt (l : Accesses) (loc i : ℕ) : Type 0 where
  pub in_range : i < length l
  pub here : location_at l i ≡ loc

-- the location would go at place i
pub record IsGapFor (l : Accesses) (loc i : ℕ) : Type 0 where
  pub in_range : i ≤ length l
  pub lower_before : (j : ℕ) → j < i → location_at l j < loc
  pub higher_after : (j : ℕ) → i ≤ j → j < length l → loc < location_at l j
