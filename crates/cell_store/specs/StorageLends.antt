-- What stored cells end as, where a `&mut` to one of them is returned.
use Rattle.std.specs.Prelude.{ℕ}
use Rattle.std.specs.Borrow.{Lends, Fml, RattleType, MutBor}
use Rattle.cell_store.specs.declared.cell.Cell.{Cell}
use Rattle.cell_store.specs.declared.few_cells.FewCells.{FewCells}
use Rattle.cell_store.specs.declared.cell_list.CellList.{CellList}
use Rattle.cell_store.specs.contracts.cell.Cell as cell
use Rattle.cell_store.specs.contracts.few_cells.FewCells as few_cells
use Rattle.cell_store.specs.contracts.cell_list.CellList as cell_list
use Rattle.cell_store.specs.Storage.{with_cell, with_cell_at}

-- once the borrow r ends, the cell at place i is the last one written through r
abbrev pub LendsFewCell : (T : RattleType) → MutBor (FewCells T.Denot) → ℕ → MutBor (Cell T.Denot) → Fml
LendsFewCell T few i r = Lends (few_cells.the_row T) (cell.the_row T) few r (with_cell few.now i)

abbrev pub LendsCell : (T : RattleType) → MutBor (CellList T.Denot) → ℕ → MutBor (Cell T.Denot) → Fml
LendsCell T list i r = Lends (cell_list.the_row T) (cell.the_row T) list r (with_cell_at list.now i)
