-- The cells of a bundle as they are stored.
use Rattle.std.specs.Prelude.{ℕ, List, [], ◌∷◌, take, ◌==◌, if◌then◌else◌}
use Rattle.cell_store.specs.declared.cell.Cell.{Cell}
use Rattle.std.specs.Vec.{with_item}
use Rattle.cell_store.specs.declared.few_cells.FewCells.{FewCells}
use Rattle.cell_store.specs.declared.cell_list.CellList.{CellList}
use Rattle.cell_store.specs.declared.cell_list.CellList.TheVariants.{InPlace, InMemory}

module _ {V : Type 0} where
  -- the cells that stand in place
  abbrev pub cells_in : FewCells V → List (Cell V)
  cells_in few = take few.len (few.first ∷ few.second ∷ few.third ∷ few.fourth ∷ [])

  -- with another cell at one place
  abbrev pub with_cell : FewCells V → ℕ → Cell V → FewCells V
  with_cell few i cell =
      if i == 0 then record few { first = cell }
      else if i == 1 then record few { second = cell }
      else if i == 2 then record few { third = cell }
      else record few { fourth = cell }

  abbrev pub cells_of : CellList V → List (Cell V)
  cells_of (InPlace few) = cells_in few
  cells_of (InMemory cells) = cells.items

  abbrev pub with_cell_at : CellList V → ℕ → Cell V → CellList V
  with_cell_at (InPlace few) i cell = InPlace (with_cell few i cell)
  with_cell_at (InMemory cells) i cell = InMemory (with_item cells i cell)
