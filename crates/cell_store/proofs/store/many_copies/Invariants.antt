use Rattle.std.proofs.Common.{◌≡◌, map, take}
use Rattle.cell_store.specs.Cells.{read_copy}
use Rattle.cell_store.proofs.store.many_copies.Given as goal

abbrev pub invariant-loop-i : goal.invariant-loop-i
invariant-loop-i g l = l.copies.items ≡ map (read_copy l.cells.items) (take l.i l.set)
