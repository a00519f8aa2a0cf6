use Rattle.std.specs.Prelude.{◌≡◌, ◌++◌, take}
use Rattle.gf2_eliminate.specs.Elimination.{writing}
use Rattle.gf2_eliminate.specs.Plans.{locations, locations_behind}
use Rattle.gf2_eliminate.proofs.touched.touched.Given as goal

abbrev pub invariant-loop-row : goal.invariant-loop-row
invariant-loop-row l = l.pairs.items ≡ writing (locations (take l.row-index l.rows))

abbrev pub invariant-loop-other : goal.invariant-loop-other
invariant-loop-other l = l.pairs.items ≡ writing (locations l.rows ++ locations_behind l.size.0 (take l.other-index l.other-items))
