use Rattle.std.specs.Prelude.{◌≡◌, take}
use Rattle.gf2_eliminate.proofs.FirstCells.{lines_so_far}
use Rattle.gf2_eliminate.proofs.start.first_cells.Given as goal

abbrev pub invariant-loop-row : goal.invariant-loop-row
invariant-loop-row l = l.lines.items ≡ lines_so_far l.pattern.rows l.pattern.cols (take l.row-index l.pattern.places)
