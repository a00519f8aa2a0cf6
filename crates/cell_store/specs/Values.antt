-- Cells that are all home, and cells that are parts of such.
use Rattle.std.specs.Prelude.{◌≡◌, ℕ, ◌<◌, List, [], ◌∷◌, length, map, IsFalse, slice_get}
use Rattle.rw_sets.specs.Accesses.{Accesses, writes}
use Rattle.cell_store.specs.declared.cell.Cell.{Cell}
use Rattle.cell_store.specs.declared.cell.Cell.TheVariants.{Home, Out}
use Rattle.cell_store.specs.Home.{IsHome}
use Rattle.cell_store.specs.Cells.{cell_at}

module _ {V : Type 0} where
  -- a cell for each value, all of them home
  abbrev pub homes : List V → List (Cell V)
  homes values = map Home values

  -- the values that are home, in the order of their cells
  abbrev pub values_of : List (Cell V) → List V
  values_of [] = []
  values_of (Home value ∷ cells) = value ∷ values_of cells
  values_of (Out ∷ cells) = values_of cells

  -- no cell is out
  abbrev pub AreAllHome : List (Cell V) → Type 0
  AreAllHome cells = (loc : ℕ) → loc < length cells → IsHome (cell_at cells loc)

  -- one cell for each value, and each that is home has the value at its place
  pub record AgreesWith (cells : List (Cell V)) (values : List V) : Type 0 where
    pub as_many : length cells ≡ length values
    pub each : (loc : ℕ) → IsHome (cell_at cells loc) → cell_at cells loc ≡ cell_at (homes values) loc

  -- as many values, and the same one at each location that the set doesn't write
  pub record ChangesOnlyWritten (set : Accesses) (old new : List V) : Type 0 where
    pub as_many : length new ≡ length old
    pub elsewhere : (loc : ℕ) → IsFalse (writes set loc) → slice_get new loc ≡ slice_get old loc
