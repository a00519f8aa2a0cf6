-- A part of the cells.
use Rattle.std.specs.Prelude.{List}
use Rattle.rw_sets.specs.Accesses.{Accesses}
use Rattle.cell_store.specs.declared.cell.Cell.{Cell}

-- a set of locations, and the cell at each of them in the order of the set
pub record Part (V : Type 0) : Type 0 where
  pub set : Accesses
  pub cells : List (Cell V)
