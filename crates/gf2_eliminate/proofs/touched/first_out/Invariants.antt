use Rattle.std.specs.Prelude.{◌≡◌, filter, drop}
use Rattle.cell_store.specs.Cells.{cell_at}
use Rattle.gf2_eliminate.specs.Elimination.{first_of, is_out}
use Rattle.gf2_eliminate.specs.Plans.{locations}
use Rattle.gf2_eliminate.proofs.touched.first_out.Given as goal

abbrev pub invariant-loop-row : goal.invariant-loop-row
invariant-loop-row l = first_of (filter (λ loc. is_out (cell_at l.store loc)) (locations l.rows)) ≡ first_of (filter (λ loc. is_out (cell_at l.store loc)) (locations (drop l.row-index l.rows)))
