-- Places of a matrix, and lists of them in order.
use Rattle.std.specs.Prelude.{ℕ, zero, suc, ◌≤◌, Bool, ◌&&◌, ◌==◌, List, [], ◌++◌, map, filter}
use Rattle.std.specs.List.{AllByRecursion, list_any}
use Rattle.std.specs.Ordering.{nat_cmp, ordering_then}
use Rattle.std.specs.declared.cmp.Ordering.{Ordering}
use Rattle.mtx_reader.specs.Ascending.{IsAscendingBy, numbers_from}

-- a row and a column, each counted from 1
abbrev pub Place : Type 0
Place = ℕ × ℕ

abbrev pub is_same : Place → Place → Bool
is_same place other = place.0 == other.0 && place.1 == other.1

-- row by row, and in a row by columns
abbrev pub place_cmp : Place → Place → Ordering
place_cmp place other = ordering_then (nat_cmp place.0 other.0) (nat_cmp place.1 other.1)

abbrev pub is_among : List Place → Place → Bool
is_among places place = list_any (is_same place) places

-- the places of the rows from a first one on, as many as are asked for
abbrev pub places_from : ℕ → ℕ → ℕ → List Place
places_from first zero columns = []
places_from first (suc rows) columns = map (λ column. (first, column)) (numbers_from 1 columns) ++ places_from (suc first) rows columns

-- the places of a matrix that are among these, row by row
abbrev pub places_among : ℕ → ℕ → List Place → List Place
places_among rows columns named = filter (is_among named) (places_from 1 rows columns)

-- a place of a matrix of that size
pub record IsWithin (rows columns : ℕ) (place : Place) : Type 0 where
  pub row : (1 ≤ place.0) × (place.0 ≤ rows)
  pub column : (1 ≤ place.1) × (place.1 ≤ columns)

-- places from 1 on, ascending, each once
pub record ArePlaces (places : List Place) : Type 0 where
  pub from_one : AllByRecursion (λ place. (1 ≤ place.0) × (1 ≤ place.1)) places
  pub ascending : IsAscendingBy place_cmp places
