-- Whether the value of a cell is in it.
use Rattle.cell_store.specs.declared.cell.Cell.{Cell}
use Rattle.cell_store.specs.declared.cell.Cell.TheVariants.{Home, Out}
use Rattle.cell_store.specs.declared.cell.Seen.{Seen}
use Rattle.cell_store.specs.declared.cell.Seen.TheVariants.{At, Out as SeenOut}

abbrev pub IsHome : {V : Type 0} → Cell V → Type 0
IsHome (Home value) = Unit {0}
IsHome Out = ⊥

-- the cell as it was seen
abbrev pub cell_seen : {V : Type 0} → Seen V → Cell V
cell_seen (At value) = Home value.now
cell_seen SeenOut = Out
