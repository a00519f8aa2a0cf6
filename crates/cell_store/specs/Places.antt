-- What the exchange of one cell leaves, at one place of a set.
use Rattle.std.specs.Prelude.{ℕ, List, slice_set, if◌then◌else◌}
use Rattle.rw_sets.specs.declared.access.Access.{Access}
use Rattle.rw_sets.specs.Accesses.{is_write}
use Rattle.cell_store.specs.declared.cell.Cell.{Cell}
use Rattle.cell_store.specs.Cells.{cell_at}

module _ {V : Type 0} where
  -- the cells with the held one at a location that is written
  abbrev pub given_at : List (Cell V) → ℕ × Access → Cell V → List (Cell V)
  given_at home p held = if is_write p.1 then slice_set home p.0 held else home

  -- what is then held: the cell from the location, or the held one where that is only read
  abbrev pub taken_at : List (Cell V) → ℕ × Access → Cell V → Cell V
  taken_at home p held = if is_write p.1 then cell_at home p.0 else held
